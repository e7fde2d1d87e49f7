use Rattle.std.proofs.Common.{◌≡◌, ◌++◌, drop}
use Rattle.cost_filters.specs.Columns.{reached}
use Rattle.cost_filters.proofs.columns.reached.Given as goal

abbrev pub invariant-loop-column : goal.invariant-loop-column
invariant-loop-column g l =
    let rows = g.R.RowStore.rows l.rows in
    l.names.items ++ reached rows l.net (drop l.column-index l.columns) l.src ≡ reached rows l.net l.columns l.src
