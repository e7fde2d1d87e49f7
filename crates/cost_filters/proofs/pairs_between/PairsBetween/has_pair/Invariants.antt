use Rattle.std.proofs.Common.{◌≡◌, drop}
use Rattle.std.specs.Prelude.{is_some}
use Rattle.std.specs.List.{list_any}
use Rattle.cost_filters.specs.Between.{pairs_at}
use Rattle.cost_filters.proofs.pairs_between.PairsBetween.has_pair.Given as goal

-- whether the source has a pair with one of the destinations that are left tells it of all
abbrev pub invariant-loop-dst : goal.invariant-loop-dst
invariant-loop-dst l =
    list_any (λ pair. is_some pair) (drop l.dst (pairs_at l.self l.src))
    ≡ list_any (λ pair. is_some pair) (pairs_at l.self l.src)
