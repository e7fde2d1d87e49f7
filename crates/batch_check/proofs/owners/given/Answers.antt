-- The map gains the owner that the next write gives.
use Rattle.std.proofs.Common.{take}
use Rattle.batch_check.proofs.OwnerLemmas.{given_more}
use Rattle.batch_check.proofs.PrefixLemmas.{taken_next}
use Rattle.batch_check.proofs.owners.given.Goals as goal

pub loop-write-preserved : goal.loop-write-preserved
loop-write-preserved g c =
    rw (taken_next c.args.writes.now c.loop-write.write-index c.write-item.result c.loop-write-test.true
    c.write-item.is)
    (given_more (g.R.RowStore.rows c.args.next.now) (take c.loop-write.write-index c.args.writes.now)
    c.write-item.result c.loop-write.owners c.in_ok-owners.owners
    c.loop-write.invariant c.in_ok-owners.ensures)
