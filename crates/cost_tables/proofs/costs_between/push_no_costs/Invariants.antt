use Rattle.std.proofs.Common.{◌≡◌, ◌++◌, map, take}
use Rattle.std.specs.Prelude.{None}
use Rattle.cost_tables.proofs.costs_between.push_no_costs.Given as goal

-- one for each destination so far
abbrev pub invariant-loop : goal.invariant-loop
invariant-loop l =
    l.costs.items ≡ l.initial.costs.items ++ map (λ destination. None) (take l.index l.destinations)
