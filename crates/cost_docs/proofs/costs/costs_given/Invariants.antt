use Rattle.std.proofs.Common.{◌≡◌, ◌++◌, length}
use Rattle.std.specs.List.{filter_map}
use Rattle.cost_docs.specs.Costs.{cost_given}
use Rattle.cost_docs.proofs.costs.costs_given.Given as goal

-- the costs that are there, and those of the rows that the walk has left, are all
abbrev pub invariant-loop-row : goal.invariant-loop-row
invariant-loop-row g l = l.costs.items ++ filter_map cost_given l.walk ≡ filter_map cost_given l.initial.walk

-- each turn takes a row
abbrev pub decreases-loop-row : goal.decreases-loop-row
decreases-loop-row g l = length l.walk
