use Rattle.std.proofs.Common.{◌≡◌, [], drop}
use Rattle.path_docs.specs.Found.{sources_anes, with_names}
use Rattle.path_docs.proofs.properties.distinct_anes.Given as goal

abbrev pub invariant-loop-source : goal.invariant-loop-source
invariant-loop-source l =
    with_names l.anes.keys (sources_anes (drop l.source-index l.sources)) ≡ with_names [] (sources_anes l.sources)
