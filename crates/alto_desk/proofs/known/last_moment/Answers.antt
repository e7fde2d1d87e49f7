-- The last of the batches is the last of both.
use Rattle.std.proofs.Common.{map, ap, sym, ◌∙◌}
use Rattle.std.specs.Prelude.{ℕ, fold}
use Rattle.std.specs.Arc.{arc_value}
use Rattle.alto_book.specs.Book.{Kept, kept_of}
use Rattle.alto_desk.specs.Ledger.{receipt_of}
use Rattle.alto_desk.proofs.KnownLemmas.{last_both}
use Rattle.alto_desk.proofs.known.last_moment.Goals as goal

pub returns : goal.returns
returns c =
    c.last_of_batches.ensures
    ∙ (ap (λ (before : ℕ). fold (λ (_ : ℕ) (one : Kept). one.moment)
    before (map kept_of (map arc_value c.args.batches.now))) c.last_of_receipts.ensures
    ∙ sym (last_both (map receipt_of c.args.receipts.now) (map kept_of (map arc_value c.args.batches.now))))
