use Rattle.std.proofs.Common.{◌≡◌, List, ap, ◌∙◌, map}
use Rattle.alto_rows.specs.declared.span.Span.TheVariants as span
use Rattle.cost_docs.specs.declared.costs.Cost.{Cost}
use Rattle.cost_docs.specs.Costs.{costs_within}
use Rattle.cost_docs.specs.Ordinal.{distinct}
use Rattle.cost_docs.proofs.CostLemmas.{amounts_given}
use Rattle.cost_docs.proofs.RankLemmas.{distinct_rise}
use Rattle.cost_docs.proofs.ranks.Ranks.of.Goals as goal

pub invariant_of-result : goal.invariant_of-result
invariant_of-result g c = rw c.in_ok-costs-2.ensures
    (distinct_rise (map (λ (cost : Cost). cost.amount) c.deref.result.now))

pub returns : goal.returns
returns g c =
    let net = c.args.net.now in
    let metric = c.args.metric.now in
    let rows = g.R.RowStore.rows c.args.rows.now in
    let costs : c.deref.result.now ≡ costs_within rows (span.CostsIn net metric) =
    c.deref.ensures.value
    ∙ (c.in_ok-costs.ensures ∙ (λ i. costs_within
    rows (span.CostsIn (c.in_ok-clone.ensures.cases i) (c.in_ok-clone-2.ensures.cases i)))) in
    c.in_ok-costs-2.ensures
    ∙ (ap (λ (all : List Cost). distinct (map (λ (cost : Cost). cost.amount) all)) costs
    ∙ ap distinct (amounts_given net metric rows))
