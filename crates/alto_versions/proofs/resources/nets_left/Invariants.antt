use Rattle.std.proofs.Common.{◌≡◌, ◌++◌, length}
use Rattle.std.specs.List.{filter_map}
use Rattle.alto_rows.specs.Versions.{net_declared}
use Rattle.alto_versions.proofs.resources.nets_left.Given as goal

-- the networks that are there, and those that the walk has left, are all
abbrev pub invariant-loop-row : goal.invariant-loop-row
invariant-loop-row g l =
    l.nets.items ++ filter_map net_declared l.walk ≡ filter_map net_declared l.initial.walk

abbrev pub decreases-loop-row : goal.decreases-loop-row
decreases-loop-row g l = length l.walk
