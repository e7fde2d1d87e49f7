use Rattle.std.proofs.Common.{◌≡◌, drop}
use Rattle.path_docs.specs.Found.{pairs_anes, with_names}
use Rattle.path_docs.proofs.properties.with_pairs.Given as goal

abbrev pub invariant-loop-pair : goal.invariant-loop-pair
invariant-loop-pair l =
    with_names l.anes.keys (pairs_anes (drop l.pair-index l.pairs)) ≡ with_names l.fn.set.keys (pairs_anes l.pairs)
