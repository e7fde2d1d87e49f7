-- The rows after one batch more.
use Rattle.std.proofs.Common.{ap, ◌∙◌}
use Rattle.std.specs.Arc.{arc_value}
use Rattle.alto_rows.specs.Accepted.{Accepted}
use Rattle.alto_rows.specs.Rows.{after}
use Rattle.alto_desk.proofs.NextLemmas.{after_next}
use Rattle.alto_desk.proofs.next_base.rows_after.Goals as goal

pub loop-batch-preserved : goal.loop-batch-preserved
loop-batch-preserved g c =
    let rows = g.R.RowStore.rows c.loop-batch.rows in
    after_next arc_value (g.R.RowStore.rows c.args.base.now) rows _ c.args.batches.now c.loop-batch.batch-index
    c.batch-item.result
    c.loop-batch-test.true c.batch-item.is c.loop-batch.invariant
    (c.in_ok-rows-2.ensures ∙ ap (λ (one : Accepted). after rows one.writes) c.deref.ensures)
