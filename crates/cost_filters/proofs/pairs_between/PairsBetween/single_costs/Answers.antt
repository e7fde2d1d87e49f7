use Rattle.std.proofs.Common.{◌∙◌, ap, sym}
use Rattle.std.specs.Prelude.{List}
use Rattle.cost_filters.specs.declared.pairs_between.Shown.TheVariants as shown_as
use Rattle.cost_filters.specs.Between.{Costs, Found, pairs_at, rows_shown}
use Rattle.cost_filters.proofs.BetweenLemmas.{single_pairs}
use Rattle.cost_filters.proofs.pairs_between.PairsBetween.single_costs.Goals as goal

pub returns-then-costs-self : goal.returns-then-costs-self
returns-then-costs-self c =
    let src = c.args.src in
    let all = c.self.inside in
    ap (λ (pairs : List Found). pairs_at pairs src) (sym c.self.view_is)
    ∙ (ap (λ shown. pairs_at (rows_shown all.costs.items shown all.sources all.destinations) src) c.in-WithCost.is
    ∙ (ap (λ (columns : List Costs). pairs_at (rows_shown columns shown_as.WithCost all.sources all.destinations) src)
    (sym c.deref.ensures.value)
    ∙ single_pairs c.deref.result.now all.sources all.destinations src c.in_ok-costs.costs.now c.if-src-self.true
    c.in_ok-costs.ensures c.if-costs-self.true))
