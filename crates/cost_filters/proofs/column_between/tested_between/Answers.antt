use Rattle.std.proofs.Common.{◌≡◌, ◌∷◌, ◌+◌, drop, refl}
use Rattle.std.proofs.lemmas.List.{drop_more}
use Rattle.cost_filters.specs.declared.columns.Scale.TheVariants as scale
use Rattle.cost_filters.specs.declared.types.CostType.{CostType}
use Rattle.cost_filters.specs.Between.{Costs, column_between}
use Rattle.cost_filters.proofs.BetweenLemmas.{column_more}
use Rattle.cost_filters.proofs.column_between.tested_between.Goals as goal

pub loop-one-preserved : goal.loop-one-preserved
loop-one-preserved c =
    let l = c.loop-one in
    let costs : CostType → Costs =
    λ type. column_between c.args.tables.now c.args.net.now c.args.srcs.now c.args.dsts.now type.metric
    scale.Numerical in
    let types = c.args.types.now in
    let one = c.one-item.result in
    let left = drop (l.one-index + 1) types in
    let step : drop l.one-index types ≡ one ∷ left =
    rw (drop_more types l.one-index one c.loop-one-test.true, ← c.one-item.is) refl in
    rw c.in_ok-push.ensures.items
    (column_more costs l.tested.items c.in_ok-of_type.field-0 one left _ c.in_ok-of_type.ensures
    (rw step at l.invariant))
