use Rattle.std.proofs.Common.{◌≡◌, ◌++◌, length}
use Rattle.std.specs.List.{filter_map}
use Rattle.net_docs.specs.Prefixes.{pid_in}
use Rattle.path_docs.proofs.found.pids_walked.Given as goal

-- the PIDs that are there, and those that the walk has left, are all
abbrev pub invariant-loop-row : goal.invariant-loop-row
invariant-loop-row g l =
    l.pids.items ++ filter_map pid_in l.declared ≡ filter_map pid_in l.initial.declared

abbrev pub decreases-loop-row : goal.decreases-loop-row
decreases-loop-row g l = length l.declared
