use Rattle.std.proofs.Common.{◌∙◌}
use Rattle.alto_rows.specs.declared.span.Span.TheVariants as span
use Rattle.alto_rows.specs.Span.{rows_in}
use Rattle.cost_docs.specs.Costs.{has_rows}
use Rattle.cost_docs.proofs.SourceLemmas.{standing}
use Rattle.cost_docs.proofs.source.has_cost_from.Goals as goal

pub returns : goal.returns
returns g c =
    let net = c.args.net.now in
    let metric = c.args.metric.now in
    let rows = g.R.RowStore.rows c.args.rows.now in
    c.has_rows.ensures
    ∙ ((λ i. has_rows (rows_in rows (span.CostsFrom (c.in_ok-clone.ensures.cases i) (c.in_ok-clone-2.ensures.cases i)
    c.args.source)))
    ∙ standing net metric c.args.source rows)
