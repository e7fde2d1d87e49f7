-- The PIDs so far, with those of the rows that are left, are all. Each turn takes one row.
use Rattle.std.proofs.Common.{◌≡◌, ◌++◌, length}
use Rattle.std.specs.List.{filter_map}
use Rattle.net_docs.specs.Prefixes.{pid_in}
use Rattle.cost_filters.proofs.names.pids_in.Given as goal

abbrev pub invariant-loop-row : goal.invariant-loop-row
invariant-loop-row g l =
    l.pids.items ++ filter_map pid_in l.walk ≡ filter_map pid_in l.initial.walk

abbrev pub decreases-loop-row : goal.decreases-loop-row
decreases-loop-row g l = length l.walk
