-- The networks so far are those of the writes so far.
use Rattle.std.proofs.Common.{take}
use Rattle.batch_check.specs.Owners.{HasNets}
use Rattle.batch_check.proofs.owners.nets_given.Given as goal

abbrev pub invariant-loop-write : goal.invariant-loop-write
invariant-loop-write g l = HasNets (g.R.RowStore.rows l.next) (take l.write-index l.writes) l.nets
