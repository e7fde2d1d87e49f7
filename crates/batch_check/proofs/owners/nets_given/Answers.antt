-- The set gains the network of the next write.
use Rattle.std.proofs.Common.{take}
use Rattle.batch_check.proofs.OwnerLemmas.{nets_more}
use Rattle.batch_check.proofs.PrefixLemmas.{taken_next}
use Rattle.batch_check.proofs.owners.nets_given.Goals as goal

pub loop-write-preserved : goal.loop-write-preserved
loop-write-preserved g c =
    rw (taken_next c.args.writes.now c.loop-write.write-index c.write-item.result c.loop-write-test.true
    c.write-item.is)
    (nets_more (g.R.RowStore.rows c.args.next.now) (take c.loop-write.write-index c.args.writes.now) c.write-item.result
    c.loop-write.nets c.in_ok-nets.nets
    c.loop-write.invariant c.in_ok-nets.ensures)
