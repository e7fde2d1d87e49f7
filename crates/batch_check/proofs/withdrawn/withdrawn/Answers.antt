-- The set gains the key of the next write, where it is withdrawn.
use Rattle.std.proofs.Common.{take}
use Rattle.batch_check.proofs.DeclaredLemmas.{withdrawn_more}
use Rattle.batch_check.proofs.PrefixLemmas.{taken_next}
use Rattle.batch_check.proofs.withdrawn.withdrawn.Goals as goal

pub loop-write-preserved : goal.loop-write-preserved
loop-write-preserved g c =
    rw (taken_next c.args.writes.now c.loop-write.write-index c.write-item.result c.loop-write-test.true
    c.write-item.is)
    (withdrawn_more (g.R.RowStore.rows c.args.next.now) (take c.loop-write.write-index c.args.writes.now)
    c.write-item.result c.loop-write.gone c.in_ok-gone.gone
    c.loop-write.invariant c.in_ok-gone.ensures)
