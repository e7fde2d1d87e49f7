use Rattle.std.proofs.Common.{◌≡◌, ◌++◌, None, length}
use Rattle.std.specs.List.{filter_map}
use Rattle.cost_docs.specs.Costs.{cost_given}
use Rattle.cost_docs.specs.Writing.{tokens_left}
use Rattle.cost_docs.proofs.writing.write_costs.Given as goal

-- what is written, and the costs of the rows that the walk has left, make all groups
abbrev pub invariant-loop-row : goal.invariant-loop-row
invariant-loop-row g l =
    record {
      before : l.out.before ≡ l.initial.out.before;
      tokens : l.out.tokens ++ tokens_left l.current (filter_map cost_given l.costs)
          ≡ l.initial.out.tokens ++ tokens_left None (filter_map cost_given l.initial.costs);
    }

-- each turn takes a row
abbrev pub decreases-loop-row : goal.decreases-loop-row
decreases-loop-row g l = length l.costs
