use Rattle.std.proofs.Common.{◌≡◌, List, ap, sym, ◌∙◌, Option, ℕ}
use Rattle.std.proofs.lemmas.Result.{IfOk-weaker}
use Rattle.std.specs.Prelude.{option_map}
use Rattle.alto_rows.specs.declared.span.Span.TheVariants as span
use Rattle.json_tree.specs.Document.{object_of}
use Rattle.cost_docs.specs.CostMap.{number_data}
use Rattle.cost_docs.specs.Costs.{costs_within, group_of, shown}
use Rattle.cost_docs.proofs.CostLemmas.{all_taken, all_told, costs_told}
use Rattle.cost_docs.proofs.groups.group.Goals as goal

pub returns : goal.returns
returns g c =
    let net = c.args.net.now in
    let metric = c.args.metric.now in
    let source = c.args.source.now in
    let rows = g.R.RowStore.rows c.args.rows.now in
    let ranks : Option (List ℕ) = option_map (λ ranks. ranks.now) c.args.ranks in
    let costs : c.deref.result.now ≡ costs_within rows (span.CostsFrom net metric source) =
    c.deref.ensures.value
    ∙ (c.in_ok-costs.ensures
    ∙ (λ i. costs_within rows (span.CostsFrom (c.in_ok-clone.ensures.cases i) (c.in_ok-clone-2.ensures.cases i)
    (c.in_ok-clone-3.ensures.cases i)))) in
    IfOk-weaker c.group_of.result _ _
    (λ tree is.
    is
    ∙ (ap (group_of ranks) costs
    ∙ ap object_of
    (sym
    (costs_told (λ cost. number_data (option_map (shown ranks) cost)) net metric source rows
    rows (all_told rows c.requires.sorted)
    (all_taken rows rows c.requires (all_told rows c.requires.sorted))))))
    c.group_of.ensures
