-- Whether the rows that are left fit tells it of all. Each turn takes one of them.
use Rattle.std.proofs.Common.{◌≡◌, length}
use Rattle.std.specs.List.{list_all}
use Rattle.batch_check.specs.Numbers.{row_fits}
use Rattle.batch_check.proofs.numbers.all_nets_fit.Given as goal

abbrev pub invariant-loop-row : goal.invariant-loop-row
invariant-loop-row g l =
    list_all (row_fits (g.R.RowStore.rows l.rows)) l.nets
    ≡ list_all (row_fits (g.R.RowStore.rows l.rows)) l.initial.nets

abbrev pub decreases-loop-row : goal.decreases-loop-row
decreases-loop-row g l = length l.nets
