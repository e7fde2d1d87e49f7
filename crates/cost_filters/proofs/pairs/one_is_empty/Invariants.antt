use Rattle.std.proofs.Common.{◌≡◌, drop, map}
use Rattle.cost_filters.specs.Pairs.{one_is_empty}
use Rattle.cost_filters.proofs.pairs.one_is_empty.Given as goal

-- whether one of the lists that are left is empty tells it of all
abbrev pub invariant-loop-constraints : goal.invariant-loop-constraints
invariant-loop-constraints l =
    one_is_empty (map (λ constraints. constraints.items) (drop l.constraints-index l.alternatives))
    ≡ one_is_empty (map (λ constraints. constraints.items) l.alternatives)
