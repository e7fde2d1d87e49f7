use Rattle.std.proofs.Common.{◌≡◌, ap, ◌∙◌}
use Rattle.alto_rows.specs.declared.span.Span.TheVariants as span
use Rattle.alto_rows.specs.Span.{rows_in}
use Rattle.cost_docs.proofs.SourceLemmas.{given_where, has_rows, standing}
use Rattle.edge_text.proofs.costs.has_cost_from.Goals as goal

pub returns : goal.returns
returns g c =
    let net = c.args.net.now in
    let metric = c.args.metric.now in
    let rows = g.R.RowStore.rows c.args.rows.now in
    let walk : c.rows_in-walk.result ≡ rows_in rows (span.CostsFrom net metric c.args.source.now) =
    c.rows_in-walk.ensures
    ∙ (λ i. rows_in rows (span.CostsFrom (c.in_ok-clone.ensures.cases i) (c.in_ok-clone-2.ensures.cases i)
    (c.in_ok-clone-3.ensures.cases i))) in
    c.is_some-found.ensures
    ∙ (given_where c.rows_in-walk.result c.next.new.self c.next.result c.next.ensures.steps
    ∙ (ap has_rows walk ∙ standing net metric c.args.source.now rows))
