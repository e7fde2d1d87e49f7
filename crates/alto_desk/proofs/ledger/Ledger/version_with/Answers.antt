use Rattle.std.proofs.Common.{sym, subst}
use Rattle.alto_book.specs.Acceptance.{with_batch}
use Rattle.alto_book.specs.Legal.{IsLegal}
use Rattle.alto_desk.specs.Ledger.{LedgerData}
use Rattle.alto_desk.proofs.KeepsLemmas.{good_more}
use Rattle.alto_desk.proofs.ledger.Ledger.version_with.Goals as goal

pub with-requires-clause-good : goal.with-requires-clause-good
with-requires-clause-good g c =
    let legal = subst (λ (ledger : LedgerData). IsLegal (with_batch ledger.book c.args.batch.now))
    (sym c.self.view_is) c.requires in
    rw c.deref.ensures (good_more _ c.args.batch.now _ _ _ c.self.invariant legal)
