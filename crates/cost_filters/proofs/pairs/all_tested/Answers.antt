use Rattle.std.proofs.Common.{◌∷◌, [], map}
use Rattle.std.proofs.lemmas.List.{map-append}
use Rattle.cost_filters.specs.Between.{flags_from}
use Rattle.cost_filters.proofs.PairsLemmas.{place_more}
use Rattle.cost_filters.proofs.pairs.all_tested.Goals as goal

pub loop-src-preserved : goal.loop-src-preserved
loop-src-preserved c =
    let alternatives = map (λ constraints. constraints.items) c.args.alternatives.now in
    let flags = flags_from alternatives c.args.told.now c.args.tested.now c.args.dsts in
    rw (
      c.in_ok-push.ensures.items,
      map-append (λ row. row.items) c.loop-src.flags.items (c.in_ok-tested_from.field-0 ∷ []),
    )
    (place_more flags (map (λ row. row.items) c.loop-src.flags.items) _ c.loop-src.src c.args.srcs
    c.in_ok-tested_from.field-0.items c.loop-src-test.true c.in_ok-tested_from.ensures c.loop-src.invariant)
