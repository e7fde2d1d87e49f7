-- What is known of the id tells.
use Rattle.std.proofs.Common.{ap, ◌∙◌}
use Rattle.alto_rows.specs.Accepted.{Accepted}
use Rattle.alto_book.specs.Acceptance.{known}
use Rattle.alto_book.specs.Book.{Book, all_kept}
use Rattle.alto_desk.proofs.KnownLemmas.{new_told}
use Rattle.alto_desk.proofs.opening.Opening.is_new.Goals as goal

pub returns : goal.returns
returns g c =
    new_told c.args.self.now c.args.batch.now c.known.result _ c.is_none.result c.is_none.ensures
    ((rw (c.deref.ensures.value, c.deref-2.ensures.value) at c.known.ensures)
    ∙ (ap (λ (book : Book). known (all_kept book) c.batch.inside.id) c.self.view_is
    ∙ ap (λ (batch : Accepted). known (all_kept c.args.self.now) batch.id) c.batch.view_is))
