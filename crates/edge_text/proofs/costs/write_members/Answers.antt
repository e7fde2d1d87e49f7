use Rattle.std.proofs.Common.{◌≡◌, ◌∙◌}
use Rattle.std.proofs.lemmas.Result.{on_ok_weaker}
use Rattle.alto_rows.specs.declared.span.Span.TheVariants as span
use Rattle.alto_rows.specs.Span.{rows_in}
use Rattle.edge_text.proofs.CostLemmas.{members_brought}
use Rattle.edge_text.proofs.costs.write_members.Goals as goal

pub returns : goal.returns
returns g c =
    let rows = g.R.RowStore.rows c.args.rows.now in
    let net = c.args.net.now in
    let metric = c.args.metric.now in
    let source = c.args.source.now in
    let walk : c.rows_in-walk.result ≡ rows_in rows (span.CostsFrom net metric source) =
    c.rows_in-walk.ensures
    ∙ (λ i. rows_in rows (span.CostsFrom (c.in_ok-clone.ensures.cases i) (c.in_ok-clone-2.ensures.cases i)
    (c.in_ok-clone-3.ensures.cases i))) in
    on_ok_weaker c.write_walked-written.result
    (λ added.
    members_brought rows c.rows_in-walk.result net metric source c.args.out.now c.write_walked-written.new.out
    c.requires walk added)
    c.write_walked-written.ensures
