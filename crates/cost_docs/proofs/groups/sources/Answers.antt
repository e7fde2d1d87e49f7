use Rattle.std.proofs.Common.{◌≡◌, List, ap, ◌∙◌, map}
use Rattle.std.proofs.lemmas.Result.{IfOk-weaker}
use Rattle.alto_rows.specs.declared.span.Span.TheVariants as span
use Rattle.alto_maps.specs.Places.{set_of}
use Rattle.cost_docs.specs.declared.costs.Cost.{Cost}
use Rattle.cost_docs.specs.Costs.{costs_within}
use Rattle.cost_docs.proofs.CostLemmas.{all_taken, all_told, sources_given}
use Rattle.cost_docs.proofs.groups.sources.Goals as goal

pub returns : goal.returns
returns g c =
    let net = c.args.net.now in
    let metric = c.args.metric.now in
    let rows = g.R.RowStore.rows c.args.rows.now in
    let costs : c.deref.result.now ≡ costs_within rows (span.CostsIn net metric) =
    c.deref.ensures.value
    ∙ (c.in_ok-costs.ensures ∙ (λ i. costs_within
    rows (span.CostsIn (c.in_ok-clone.ensures.cases i) (c.in_ok-clone-2.ensures.cases i)))) in
    IfOk-weaker c.distinct_sources.result _ _
    (λ sources is.
    is
    ∙ (ap (λ (all : List Cost). set_of (map (λ (cost : Cost). cost.source) all)) costs
    ∙ ap set_of (sources_given net metric rows (all_taken rows rows c.requires (all_told rows c.requires.sorted)))))
    c.distinct_sources.ensures
