-- The keys so far are those that the writes so far withdraw.
use Rattle.std.proofs.Common.{take}
use Rattle.batch_check.specs.Named.{AreWithdrawn}
use Rattle.batch_check.proofs.withdrawn.withdrawn.Given as goal

abbrev pub invariant-loop-write : goal.invariant-loop-write
invariant-loop-write g l = AreWithdrawn (g.R.RowStore.rows l.next) (take l.write-index l.writes) l.gone
