use Rattle.std.proofs.Common.{◌≡◌, ◌++◌}
use Rattle.std.specs.List.{filter_map}
use Rattle.alto_rows.specs.Prefixes.{prefix_declared, prefixes_in}
use Rattle.alto_rows.proofs.prefixes.prefixes_of.Given as goal

-- the prefixes that are there, and those of the rows that the walk has left, are all
abbrev pub invariant-loop-row : goal.invariant-loop-row
invariant-loop-row g l =
    l.prefixes.items ++ filter_map prefix_declared l.row-iterator ≡ prefixes_in (g.R.RowStore.rows l.rows) l.net
