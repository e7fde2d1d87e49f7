use Rattle.std.proofs.Common.{◌≡◌, ◌∙◌}
use Rattle.alto_rows.specs.declared.span.Span.TheVariants as span
use Rattle.alto_rows.specs.Span.{rows_in}
use Rattle.net_docs.proofs.SpanLemmas.{prefixes_in_span}
use Rattle.net_docs.proofs.prefixes.prefixes_of.Goals as goal

pub loop-row-init : goal.loop-row-init
loop-row-init g c =
    let net = c.args.net.now in
    let pid = c.args.pid.now in
    let rows = g.R.RowStore.rows c.args.rows.now in
    let walk : c.into_iter-row-iterator.result ≡ rows_in rows (span.PrefixesOf net pid) =
    c.into_iter-row-iterator.ensures.into_iter_gives
    ∙ (c.rows_in-row-items.ensures
    ∙ (λ i. rows_in rows (span.PrefixesOf (c.in_ok-clone.ensures.cases i) (c.in_ok-clone-2.ensures.cases i)))) in
    rw (c.new-prefixes.ensures.items, walk) (prefixes_in_span rows net pid)
