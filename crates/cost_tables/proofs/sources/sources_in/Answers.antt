use Rattle.std.proofs.Common.{◌≡◌, ◌∙◌, IfOk, ap, subst}
use Rattle.std.specs.Map.{keys_of}
use Rattle.alto_rows.specs.declared.span.Span.TheVariants as span
use Rattle.alto_rows.specs.Span.{rows_in}
use Rattle.cost_tables.specs.Tables.{IsSetOf, sources_of}
use Rattle.cost_tables.proofs.SourceLemmas.{sources_in_span}
use Rattle.cost_tables.proofs.sources.sources_in.Goals as goal

pub returns : goal.returns
returns g c =
    let net = c.args.net.now in
    let metric = c.args.metric.now in
    let rows = g.R.RowStore.rows c.args.rows.now in
    let walk : c.rows_in-costs.result ≡ rows_in rows (span.CostsIn net metric) =
    c.rows_in-costs.ensures
    ∙ (λ i. rows_in rows (span.CostsIn (c.in_ok-clone.ensures.cases i) (c.in_ok-clone-2.ensures.cases i))) in
    let all : sources_of net metric (keys_of c.rows_in-costs.result) ≡ sources_of net metric (keys_of rows) =
    ap (λ left. sources_of net metric (keys_of left)) walk ∙ sources_in_span net metric rows in
    subst (λ names. IfOk c.sources_walked-sources.result (λ sources. IsSetOf sources.items names)) all
    c.sources_walked-sources.ensures
