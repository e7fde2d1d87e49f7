-- Whether one of the writes that are left puts such a row tells it of all.
use Rattle.std.proofs.Common.{◌≡◌, drop}
use Rattle.batch_check.specs.Named.{puts_orphan}
use Rattle.batch_check.proofs.needs.puts_orphan.Given as goal

abbrev pub invariant-loop-write : goal.invariant-loop-write
invariant-loop-write g l =
    puts_orphan (g.R.RowStore.rows l.next) (drop l.write-index l.writes)
    ≡ puts_orphan (g.R.RowStore.rows l.next) l.writes
