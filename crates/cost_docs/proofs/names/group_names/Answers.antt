use Rattle.std.proofs.Common.{None, ap, ◌∙◌}
use Rattle.std.proofs.lemmas.Result.{IfOk-weaker}
use Rattle.std.specs.List.{filter_map}
use Rattle.alto_rows.specs.declared.span.Span.TheVariants as span
use Rattle.alto_rows.specs.Span.{rows_in}
use Rattle.cost_docs.specs.Costs.{cost_given}
use Rattle.cost_docs.specs.Writing.{names_left}
use Rattle.cost_docs.proofs.NameLemmas.{names_made}
use Rattle.cost_docs.proofs.names.group_names.Goals as goal

pub returns : goal.returns
returns g c =
    let net = c.args.net.now in
    let metric = c.args.metric.now in
    let rows = g.R.RowStore.rows c.args.rows.now in
    IfOk-weaker c.names_begun-names.result _ _
    (λ names are.
    are
    ∙ (ap (λ left. names_left None (filter_map cost_given left))
    (c.rows_in-costs.ensures
    ∙ (λ i. rows_in rows (span.CostsIn (c.in_ok-clone.ensures.cases i) (c.in_ok-clone-2.ensures.cases i))))
    ∙ names_made net metric rows c.requires))
    c.names_begun-names.ensures
