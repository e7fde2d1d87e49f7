-- the costs that are there, and those of the rows that the walk has left, are all; each turn takes one row
use Rattle.std.proofs.Common.{◌≡◌, ◌++◌, ◌≤◌, length}
use Rattle.std.specs.Prelude.{zip}
use Rattle.std.specs.List.{filter_map}
use Rattle.cost_tables.specs.Tables.{cost_given}
use Rattle.cost_tables.proofs.from_source.costs_walked_to.Given as goal

abbrev pub invariant-loop-row : goal.invariant-loop-row
invariant-loop-row g l =
    (length l.costs.items ≤ length l.destinations)
    × (zip l.destinations l.costs.items ++ filter_map cost_given l.walk ≡ filter_map cost_given l.initial.walk)

abbrev pub decreases-loop-row : goal.decreases-loop-row
decreases-loop-row g l = length l.walk
