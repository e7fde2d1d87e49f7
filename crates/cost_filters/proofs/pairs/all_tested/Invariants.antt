use Rattle.std.proofs.Common.{◌≡◌, ◌++◌, ◌-◌, map}
use Rattle.std.specs.List.{range_with_len}
use Rattle.cost_filters.specs.Between.{flags_between, flags_from}
use Rattle.cost_filters.proofs.pairs.all_tested.Given as goal

-- what is known of the sources so far, and what is left, is all
abbrev pub invariant-loop-src : goal.invariant-loop-src
invariant-loop-src l =
    let alternatives = map (λ constraints. constraints.items) l.alternatives in
    map (λ row. row.items) l.flags.items
    ++ map (flags_from alternatives l.told l.tested l.dsts) (range_with_len l.src (l.srcs - l.src))
    ≡ flags_between alternatives l.told l.tested l.srcs l.dsts
