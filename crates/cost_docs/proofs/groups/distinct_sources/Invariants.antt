use Rattle.std.proofs.Common.{◌≡◌, map, take}
use Rattle.alto_maps.specs.Places.{set_of}
use Rattle.cost_docs.specs.declared.costs.Cost.{Cost}
use Rattle.cost_docs.proofs.groups.distinct_sources.Given as goal

-- the sources so far are those of the costs so far
abbrev pub invariant-loop-cost : goal.invariant-loop-cost
invariant-loop-cost l = l.sources.keys ≡ set_of (map (λ (cost : Cost). cost.source) (take l.cost-index l.costs))
