-- Each id gets the next place.
use Rattle.std.proofs.Common.{length, map, ◌+◌, ap, sym, ◌∙◌, arith, refl}
use Rattle.std.specs.Arc.{arc_value}
use Rattle.std.specs.Prelude.{Some}
use Rattle.alto_rows.specs.Accepted.{Accepted}
use Rattle.alto_book.specs.Book.{kept_of}
use Rattle.base_code.specs.Bases.{KeptData}
use Rattle.alto_desk.specs.Ledger.{kept_in, receipt_of}
use Rattle.alto_desk.proofs.PlaceLemmas.{all_placed, in_batches, in_receipts, placed_next}
use Rattle.alto_desk.proofs.places.Places.of.Goals as goal

pub loop-before-preserved : goal.loop-before-preserved
loop-before-preserved c =
    let batches = map arc_value c.args.batches.now in
    let inside = c.kept.inside in
    placed_next c.loop-before.before _ (kept_in c.args.receipts.now batches) c.loop-before.places _
    (record { id = inside.id; digest = inside.digest; moment = inside.moment }) refl c.requires
    (in_receipts c.args.receipts.now batches c.loop-before.before c.index-receipts-before.result
    c.loop-before-test.true c.index-receipts-before.is
    ∙ ap (λ (kept : KeptData). Some (receipt_of kept)) (sym c.kept.view_is))
    c.loop-before.invariant c.in_ok-put.ensures.put

pub loop-before-2-preserved : goal.loop-before-2-preserved
loop-before-2-preserved c =
    let receipts = c.args.receipts.now in
    let batches = c.args.batches.now in
    let place = length receipts + c.loop-before-2.before in
    let inside = c.behind-batch.inside in
    placed_next place _ (kept_in receipts (map arc_value batches)) c.loop-before-2.places _
    (record { id = inside.id; digest = inside.digest; moment = inside.moment }) (omega arith) c.requires
    (in_batches arc_value receipts batches c.loop-before-2.before place c.index-batches-before.result refl
    c.loop-before-2-test.true c.index-batches-before.is
    ∙ ap (λ (batch : Accepted). Some (kept_of batch)) (sym (c.behind-batch.view_is ∙ c.deref.ensures)))
    c.loop-before-2.invariant c.in_ok-put-2.ensures.put

pub returns : goal.returns
returns c =
    all_placed arc_value c.args.receipts.now c.args.batches.now (length c.args.receipts.now + c.loop-before-2.before)
    c.loop-before-2.places c.loop-before-2.invariant (omega arith)
