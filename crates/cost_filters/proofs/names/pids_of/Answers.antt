use Rattle.std.proofs.Common.{◌≡◌, ap, ◌∙◌}
use Rattle.std.proofs.lemmas.Result.{IfOk-weaker}
use Rattle.std.specs.List.{filter_map}
use Rattle.alto_rows.specs.declared.span.Span.TheVariants as span
use Rattle.alto_rows.specs.Span.{rows_in}
use Rattle.net_docs.specs.Prefixes.{pid_in}
use Rattle.net_docs.proofs.SpanLemmas.{pids_in_span}
use Rattle.cost_filters.proofs.names.pids_of.Goals as goal

pub returns : goal.returns
returns g c =
    let net = c.args.net.now in
    let rows = g.R.RowStore.rows c.args.rows.now in
    let walk : c.rows_in-walk.result ≡ rows_in rows (span.Pids net) =
    c.rows_in-walk.ensures ∙ ap (λ of. rows_in rows (span.Pids of)) c.in_ok-clone.ensures.cases in
    IfOk-weaker c.pids_in-pids.result _ _
    (λ pids found. found ∙ (ap (filter_map pid_in) walk ∙ pids_in_span rows net))
    c.pids_in-pids.ensures
