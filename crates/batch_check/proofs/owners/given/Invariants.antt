-- The owners so far are those that the writes so far give.
use Rattle.std.proofs.Common.{take}
use Rattle.batch_check.specs.Owners.{AreGiven}
use Rattle.batch_check.proofs.owners.given.Given as goal

abbrev pub invariant-loop-write : goal.invariant-loop-write
invariant-loop-write g l = AreGiven (g.R.RowStore.rows l.next) (take l.write-index l.writes) l.owners
