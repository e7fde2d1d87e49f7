-- Whether a row that is left names one of the keys tells it of all.
use Rattle.std.proofs.Common.{◌≡◌}
use Rattle.std.specs.List.{list_any}
use Rattle.batch_check.specs.Named.{names_some}
use Rattle.batch_check.proofs.withdrawn.some_names.Given as goal

abbrev pub invariant-loop-row : goal.invariant-loop-row
invariant-loop-row g l = list_any (names_some l.gone) l.row-iterator
    ≡ list_any (names_some l.gone) (g.R.RowStore.rows l.next)
