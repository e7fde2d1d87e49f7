use Rattle.std.proofs.Common.{◌≡◌, drop}
use Rattle.std.specs.Map.{lookup}
use Rattle.cost_tables.specs.Tables.{is_of}
use Rattle.cost_tables.proofs.tables.CostTables.table.Given as goal

-- the table is found among those that are left
abbrev pub invariant-loop-of : goal.invariant-loop-of
invariant-loop-of l = lookup (is_of l.net l.metric) (drop l.of-index l.of-items) ≡ lookup (is_of l.net l.metric) l.self
