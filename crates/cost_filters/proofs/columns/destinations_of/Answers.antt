use Rattle.std.proofs.Common.{◌≡◌, ap, ◌∙◌}
use Rattle.std.proofs.lemmas.Result.{IfOk-weaker}
use Rattle.std.specs.List.{filter_map}
use Rattle.alto_rows.specs.declared.span.Span.TheVariants as span
use Rattle.alto_rows.specs.Span.{rows_in}
use Rattle.cost_filters.specs.Columns.{destination}
use Rattle.cost_filters.proofs.SpanLemmas.{destinations_in_span}
use Rattle.cost_filters.proofs.columns.destinations_of.Goals as goal

pub returns : goal.returns
returns g c =
    let net = c.args.net.now in
    let metric = c.args.metric.now in
    let src = c.args.src.now in
    let rows = g.R.RowStore.rows c.args.rows.now in
    let walk : c.rows_in-walk.result ≡ rows_in rows (span.CostsFrom net metric src) =
    c.rows_in-walk.ensures
    ∙ (λ i. rows_in rows (span.CostsFrom (c.in_ok-clone.ensures.cases i) (c.in_ok-clone-2.ensures.cases i)
    (c.in_ok-clone-3.ensures.cases i))) in
    IfOk-weaker c.destinations_in-names.result _ _
    (λ names found. found ∙ (ap (filter_map destination) walk ∙ destinations_in_span rows net metric src))
    c.destinations_in-names.ensures
