use Rattle.std.proofs.Common.{◌≡◌, ◌++◌}
use Rattle.std.specs.List.{filter_map}
use Rattle.net_docs.specs.NetworkMap.{pids_of}
use Rattle.net_docs.specs.Prefixes.{pid_in}
use Rattle.net_docs.proofs.pids.pids_of.Given as goal

-- the PIDs so far, and those of the rows that the walk has left, are all
abbrev pub invariant-loop-row : goal.invariant-loop-row
invariant-loop-row g l = l.pids.items ++ filter_map pid_in l.row-iterator ≡ pids_of (g.R.RowStore.rows l.rows) l.net
