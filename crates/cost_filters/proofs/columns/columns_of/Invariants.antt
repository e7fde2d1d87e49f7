use Rattle.std.proofs.Common.{◌≡◌, ◌++◌, drop}
use Rattle.cost_filters.specs.Columns.{columns_of}
use Rattle.cost_filters.proofs.columns.columns_of.Given as goal

abbrev pub invariant-loop-one : goal.invariant-loop-one
invariant-loop-one g l =
    let rows = g.R.RowStore.rows l.rows in
    l.columns.items ++ columns_of rows l.net (drop l.one-index l.types) ≡ columns_of rows l.net l.types
