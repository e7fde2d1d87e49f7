use Rattle.std.proofs.Common.{◌≡◌, ◌∙◌, ap}
use Rattle.alto_rows.specs.declared.span.Span.TheVariants as span
use Rattle.alto_rows.specs.Span.{rows_in}
use Rattle.net_docs.proofs.SpanLemmas.{pids_in_span}
use Rattle.net_docs.proofs.pids.pids_of.Goals as goal

pub loop-row-init : goal.loop-row-init
loop-row-init g c =
    let net = c.args.net.now in
    let rows = g.R.RowStore.rows c.args.rows.now in
    let walk : c.into_iter-row-iterator.result ≡ rows_in rows (span.Pids net) =
    c.into_iter-row-iterator.ensures.into_iter_gives
    ∙ (c.rows_in-row-items.ensures ∙ ap (λ of. rows_in rows (span.Pids of)) c.in_ok-clone.ensures.cases) in
    rw (c.new-pids.ensures.items, walk) (pids_in_span rows net)
