use Rattle.std.proofs.Common.{map}
use Rattle.cost_filters.specs.Between.{columns_at}
use Rattle.cost_filters.specs.Pairs.{is_shown}
use Rattle.cost_filters.proofs.PairsLemmas.{place_more}
use Rattle.cost_filters.proofs.pairs.tested_from.Goals as goal

pub loop-dst-preserved : goal.loop-dst-preserved
loop-dst-preserved c =
    let shown = is_shown (map (λ constraints. constraints.items) c.args.alternatives.now)
    (columns_at c.args.src c.args.told.now) (columns_at c.args.src c.args.tested.now) in
    rw c.in_ok-push.ensures.items (place_more shown c.loop-dst.flags.items _ c.loop-dst.dst c.args.dsts
    c.in_ok-is_shown.field-0 c.loop-dst-test.true c.in_ok-is_shown.ensures c.loop-dst.invariant)
