use Rattle.std.proofs.Common.{◌≡◌, ◌++◌, ◌-◌, map}
use Rattle.std.specs.List.{range_with_len}
use Rattle.cost_filters.specs.Between.{columns_at}
use Rattle.cost_filters.specs.Pairs.{is_shown}
use Rattle.cost_filters.proofs.pairs.tested_from.Given as goal

-- what is known of the destinations so far, and what is left, is all
abbrev pub invariant-loop-dst : goal.invariant-loop-dst
invariant-loop-dst l =
    let shown = is_shown (map (λ constraints. constraints.items) l.alternatives) (columns_at l.src l.told)
    (columns_at l.src l.tested) in
    l.flags.items ++ map shown (range_with_len l.dst (l.dsts - l.dst)) ≡ map shown (range_with_len 0 l.dsts)
