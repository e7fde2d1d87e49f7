-- One receipt more.
use Rattle.std.proofs.Common.{append-nil, ap, map, sym, ◌∙◌}
use Rattle.std.specs.Arc.{arc_value}
use Rattle.alto_book.specs.Book.{kept_of}
use Rattle.alto_desk.specs.Ledger.{receipt_of}
use Rattle.alto_desk.proofs.NextLemmas.{receipts_next}
use Rattle.alto_desk.proofs.next_base.receipts_after.Goals as goal

pub loop-batch-init : goal.loop-batch-init
loop-batch-init c = ap (map receipt_of) c.in_ok-all.ensures ∙ sym (append-nil (map receipt_of c.args.receipts.now))

pub loop-batch-preserved : goal.loop-batch-preserved
loop-batch-preserved c =
    receipts_next arc_value (map receipt_of c.args.receipts.now) c.loop-batch.all.items _ c.in_ok-kept_of.field-0
    c.args.batches.now
    c.loop-batch.batch-index c.batch-item.result c.loop-batch-test.true c.batch-item.is c.loop-batch.invariant
    c.in_ok-push.ensures.items
    (c.in_ok-kept_of.ensures ∙ ap kept_of c.deref.ensures)
