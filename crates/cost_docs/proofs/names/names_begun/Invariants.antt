use Rattle.std.proofs.Common.{◌≡◌, ◌++◌, None, length}
use Rattle.std.specs.List.{filter_map}
use Rattle.cost_docs.specs.Costs.{cost_given}
use Rattle.cost_docs.specs.Writing.{names_left}
use Rattle.cost_docs.proofs.names.names_begun.Given as goal

-- the names so far, and those that the costs that the walk has left begin, are all
abbrev pub invariant-loop-row : goal.invariant-loop-row
invariant-loop-row g l =
    l.names.items ++ names_left l.current (filter_map cost_given l.costs)
    ≡ names_left None (filter_map cost_given l.initial.costs)

-- each turn takes a row
abbrev pub decreases-loop-row : goal.decreases-loop-row
decreases-loop-row g l = length l.costs
