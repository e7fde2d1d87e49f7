-- The names so far, with those of the rows that are left, are all. Each turn takes one row.
use Rattle.std.proofs.Common.{◌≡◌, ◌++◌, length}
use Rattle.std.specs.List.{filter_map}
use Rattle.cost_filters.specs.Columns.{destination}
use Rattle.cost_filters.proofs.columns.destinations_in.Given as goal

abbrev pub invariant-loop-row : goal.invariant-loop-row
invariant-loop-row g l =
    l.names.items ++ filter_map destination l.walk ≡ filter_map destination l.initial.walk

abbrev pub decreases-loop-row : goal.decreases-loop-row
decreases-loop-row g l = length l.walk
