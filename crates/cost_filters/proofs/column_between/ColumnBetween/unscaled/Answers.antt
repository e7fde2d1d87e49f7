use Rattle.std.proofs.Common.{◌≡◌, ◌∙◌, [], option_map, slice_get, subst, sym}
use Rattle.std.specs.Prelude.{IfSome, unwrap_or}
use Rattle.cost_filters.specs.declared.columns.Scale.TheVariants as told_as
use Rattle.cost_filters.specs.Between.{Costs, costs_as}
use Rattle.cost_filters.proofs.BetweenLemmas.{costs_as_they_are}
use Rattle.cost_filters.proofs.column_between.ColumnBetween.unscaled.Goals as goal

pub returns-in-Some : goal.returns-in-Some
returns-in-Some c =
    let costs : Costs = c.self.inside.costs in
    let same : costs_as c.in-Some.scale.now costs ≡ c.args.self.now =
    (λ i. costs_as (unwrap_or (option_map (λ of. of.now) (sym c.in-Some.is i)) told_as.Numerical) costs)
    ∙ c.self.view_is in
    subst (λ (all : Costs). IfSome c.unscaled.result (λ row. row.now ≡ unwrap_or (slice_get all c.args.src) []))
    same c.unscaled.ensures

pub returns-in-None : goal.returns-in-None
returns-in-None c =
    let costs : Costs = c.self.inside.costs in
    let same : costs ≡ c.args.self.now =
    costs_as_they_are costs
    ∙ ((λ i. costs_as (unwrap_or (option_map (λ of. of.now) (sym c.in-None.is i)) told_as.Numerical) costs)
    ∙ c.self.view_is) in
    subst (λ (all : Costs). IfSome c.row_at.result (λ row. row.now ≡ unwrap_or (slice_get all c.args.src) []))
    same c.row_at.ensures
