-- The id of the batch has the next place.
use Rattle.std.proofs.Common.{◌≡◌, refl, ap, sym, ◌∙◌, length, map, subst, arith}
use Rattle.std.proofs.lemmas.List.{map-append}
use Rattle.std.specs.Arc.{arc_value}
use Rattle.std.specs.Prelude.{Some}
use Rattle.alto_rows.specs.Accepted.{Accepted}
use Rattle.alto_book.specs.Acceptance.{with_batch}
use Rattle.alto_book.specs.Book.{number_of}
use Rattle.alto_book.specs.Legal.{IsLegal}
use Rattle.alto_versions.specs.Front.{StandsFor}
use Rattle.alto_desk.specs.Ledger.{LedgerData, place_of}
use Rattle.alto_desk.proofs.KeepsLemmas.{keeps_more}
use Rattle.alto_desk.proofs.ledger.Ledger.add.Goals as goal

pub invariant_of-self : goal.invariant_of-self
invariant_of-self g c =
    let batch = arc_value c.args.batch in
    let same = sym c.self.view_is in
    let writes = ap (λ (one : Accepted). length one.writes) (c.behind-batch-2.view_is ∙ c.deref-3.ensures) in
    keeps_more _ batch c.self.inside.places _ _ (map arc_value c.push_reserved.new.self.items) _ _
    c.self.invariant
    (subst (λ (ledger : LedgerData). IsLegal (with_batch ledger.book batch)) same c.requires.legal)
    (subst (λ (ledger : LedgerData). place_of ledger.places batch.id ≡ Some (number_of ledger.book)) same
    c.requires.room.place)
    (rw (c.push_reserved.ensures.items, map-append) refl)
    (omega (arith, writes, c.len.ensures, c.behind-batch-2.inside.writes.ok))
    (subst (λ (ledger : LedgerData). StandsFor (arc_value c.args.front) (with_batch ledger.book batch)) same
    c.requires.stands)
