-- A new id gets the next place.
use Rattle.std.proofs.Common.{◌≡◌, ◌+◌, ap, map, sym, ◌∙◌, subst, arith}
use Rattle.std.proofs.lemmas.List.{length-map}
use Rattle.std.proofs.lemmas.Result.{on_ok_weaker}
use Rattle.std.specs.Arc.{arc_value}
use Rattle.std.specs.Prelude.{ℕ, Some, None, OnOk}
use Rattle.alto_rows.specs.Accepted.{Accepted}
use Rattle.alto_book.specs.Acceptance.{known}
use Rattle.alto_book.specs.Book.{all_kept}
use Rattle.alto_desk.specs.Ledger.{HasPut, LedgerData, receipt_of}
use Rattle.alto_desk.proofs.KeepsLemmas.{keeps_put}
use Rattle.alto_desk.proofs.PlaceLemmas.{put_here}
use Rattle.alto_desk.proofs.ledger.Ledger.reserve.Goals as goal

pub invariant_of-self-2 : goal.invariant_of-self-2
invariant_of-self-2 g c =
    let places = c.self.inside.places in
    let later = c.put.new.self in
    let place = c.len.result + c.len-2.result in
    keeps_put _ _ places later c.args.batch.now.id place _ _ c.put.result c.self.invariant
    (ap (map arc_value) c.in_ok-reserve.ensures.items)
    (subst (λ (ledger : LedgerData). known (all_kept ledger.book) c.args.batch.now.id ≡ None) (sym c.self.view_is)
    c.requires)
    (subst (λ (batch : Accepted). OnOk c.put.result (HasPut places later batch.id place)) c.batch.view_is
    c.put.ensures.put)
    c.put.ensures.unchanged

pub returns-clause-room : goal.returns-clause-room
returns-clause-room g c =
    let place = c.len.result + c.len-2.result in
    let receipts = length-map c.self.inside.receipts.items receipt_of in
    let batches = length-map c.reserve.new.self.items arc_value in
    on_ok_weaker c.put.result
    (λ put. record {
      room = omega (arith, c.in_ok-reserve.ensures.ok, c.reserve.new.self.ok, batches);
      place =
          put_here _ _ _ _ put
          ∙ ap (λ (n : ℕ). Some n) (omega (
            arith,
            receipts,
            batches,
            c.len.ensures,
            c.len-2.ensures,
            c.self.inside.receipts.ok,
            c.reserve.new.self.ok,
          ));
    })
    (subst (λ (batch : Accepted). OnOk c.put.result (HasPut c.self.inside.places c.put.new.self batch.id place))
    c.batch.view_is c.put.ensures.put)
