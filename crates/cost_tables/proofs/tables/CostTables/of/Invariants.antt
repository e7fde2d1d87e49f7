use Rattle.std.proofs.Common.{drop}
use Rattle.cost_tables.proofs.TablesLemmas.{AreMade}
use Rattle.cost_tables.proofs.tables.CostTables.of.Given as goal

-- the tables so far are of the metrics of the resources before those that are left
abbrev pub invariant-loop-of : goal.invariant-loop-of
invariant-loop-of g l = AreMade (g.R.RowStore.rows l.rows) (drop l.of-index l.resources) l.resources l.tables.items
