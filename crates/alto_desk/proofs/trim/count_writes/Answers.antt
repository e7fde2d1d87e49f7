-- The writes of one batch more, of which there are no more than of all.
use Rattle.std.proofs.Common.{length, ap, ◌∙◌, arith}
use Rattle.std.specs.Arc.{arc_value}
use Rattle.alto_rows.specs.Accepted.{Accepted}
use Rattle.alto_desk.proofs.NextLemmas.{counted_next, writes_within}
use Rattle.alto_desk.proofs.trim.count_writes.Goals as goal

pub count_of-count-requires : goal.count_of-count-requires
count_of-count-requires c =
    let within = writes_within arc_value c.args.batches.now c.loop-batch.batch-index c.batch-item.result
    c.loop-batch-test.true c.batch-item.is in
    let own = ap (λ (one : Accepted). length one.writes) c.deref.ensures in
    omega (arith, within, own, c.requires)

pub overflow_add-count : goal.overflow_add-count
overflow_add-count c =
    let within = writes_within arc_value c.args.batches.now c.loop-batch.batch-index c.batch-item.result
    c.loop-batch-test.true c.batch-item.is in
    let own = ap (λ (one : Accepted). length one.writes) c.deref.ensures in
    omega (arith, within, own, c.requires, c.count_of-count.ensures, c.loop-batch.invariant)

pub loop-batch-preserved : goal.loop-batch-preserved
loop-batch-preserved c =
    counted_next arc_value c.loop-batch.count c.count_of-count.result c.args.batches.now c.loop-batch.batch-index
    c.batch-item.result
    c.loop-batch-test.true c.batch-item.is c.loop-batch.invariant
    (c.count_of-count.ensures ∙ ap (λ (one : Accepted). length one.writes) c.deref.ensures)
