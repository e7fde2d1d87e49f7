use Rattle.std.proofs.Common.{◌≡◌, drop}
use Rattle.alto_rows.specs.Rows.{AreSorted, Rows, after}
use Rattle.cost_tables.specs.Tables.{AreCostsOf}
use Rattle.cost_tables.proofs.TablesLemmas.{AreMade}
use Rattle.cost_tables.proofs.tables.CostTables.after.Given as goal

-- the tables so far are of the metrics of the resources before those that are left
abbrev pub invariant-loop-of : goal.invariant-loop-of
invariant-loop-of g l =
    (before : Rows) → AreSorted before → g.R.RowStore.rows l.rows ≡ after before l.writes → AreCostsOf before l.self
    → AreMade (g.R.RowStore.rows l.rows) (drop l.of-index l.resources) l.resources l.tables.items
