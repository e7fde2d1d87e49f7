use Rattle.std.proofs.Common.{◌≡◌, map, take}
use Rattle.cost_docs.specs.declared.costs.Cost.{Cost}
use Rattle.cost_docs.specs.Ordinal.{distinct}
use Rattle.cost_docs.proofs.ranks.distinct_amounts.Given as goal

-- the amounts so far are those of the costs so far
abbrev pub invariant-loop-cost : goal.invariant-loop-cost
invariant-loop-cost l = l.amounts.keys ≡ distinct (map (λ (cost : Cost). cost.amount) (take l.cost-index l.costs))
