use Rattle.std.proofs.Common.{◌≡◌, refl, ap, ◌∙◌}
use Rattle.alto_rows.specs.declared.span.Span.TheVariants as span
use Rattle.alto_rows.specs.Span.{rows_in}
use Rattle.alto_rows.proofs.prefixes.prefixes_of.Goals as goal

pub loop-row-init : goal.loop-row-init
loop-row-init g c =
    let net = c.args.net.now in
    let rows = g.R.RowStore.rows c.args.rows.now in
    let walk : c.into_iter-row-iterator.result ≡ rows_in rows (span.Prefixes net) =
    c.into_iter-row-iterator.ensures.into_iter_gives
    ∙ (c.rows_in-row-items.ensures ∙ ap (λ of. rows_in rows (span.Prefixes of)) c.in_ok-clone.ensures.cases) in
    rw (c.new-prefixes.ensures.items, walk) refl
