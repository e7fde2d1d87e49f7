use Rattle.std.proofs.Common.{◌≡◌, ◌∙◌, [], ap, slice_get, subst, sym}
use Rattle.std.specs.Prelude.{IfSome, unwrap_or}
use Rattle.cost_filters.specs.Between.{Costs, costs_as}
use Rattle.cost_filters.proofs.BetweenLemmas.{costs_as_they_are}
use Rattle.cost_filters.proofs.column_between.unscaled.Goals as goal

pub returns-in-Numerical : goal.returns-in-Numerical
returns-in-Numerical c =
    let rows : Costs = c.args.costs.now in
    subst (λ (rows : Costs). IfSome c.row_at.result (λ row. row.now ≡ unwrap_or (slice_get rows c.args.src) []))
    (costs_as_they_are rows ∙ ap (λ of. costs_as of rows) (sym c.in-Numerical.is)) c.row_at.ensures
