use Rattle.std.proofs.Common.{◌≡◌, ◌++◌, length}
use Rattle.std.specs.List.{filter_map}
use Rattle.alto_rows.specs.Versions.{cost_declared}
use Rattle.alto_versions.proofs.resources.add_costs_left.Given as goal

-- the cost maps that are there, and those that the walk has left, are all
abbrev pub invariant-loop-row : goal.invariant-loop-row
invariant-loop-row g l =
    l.resources.items ++ filter_map cost_declared l.metrics
    ≡ l.initial.resources.items ++ filter_map cost_declared l.initial.metrics

abbrev pub decreases-loop-row : goal.decreases-loop-row
decreases-loop-row g l = length l.metrics
