use Rattle.std.proofs.Common.{◌≡◌, ◌++◌}
use Rattle.std.specs.List.{filter_map}
use Rattle.net_docs.specs.Prefixes.{prefix_in, prefixes_owned}
use Rattle.net_docs.proofs.prefixes.prefixes_of.Given as goal

-- the prefixes that are there, and those of the rows that the walk has left, are all
abbrev pub invariant-loop-row : goal.invariant-loop-row
invariant-loop-row g l =
    l.prefixes.items ++ filter_map prefix_in l.row-iterator ≡ prefixes_owned (g.R.RowStore.rows l.rows) l.net l.pid
