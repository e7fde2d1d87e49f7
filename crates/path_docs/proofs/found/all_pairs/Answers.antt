use Rattle.std.proofs.Common.{◌≡◌, ◌∙◌, ap}
use Rattle.std.proofs.lemmas.Result.{IfOk-weaker}
use Rattle.std.specs.List.{filter_map}
use Rattle.alto_rows.specs.declared.span.Span.TheVariants as span
use Rattle.alto_rows.specs.Span.{rows_in}
use Rattle.path_docs.specs.Found.{pair_in}
use Rattle.path_docs.proofs.RowLemmas.{pairs_walked}
use Rattle.path_docs.proofs.found.all_pairs.Goals as goal

pub returns : goal.returns
returns g c =
    let net = c.args.net.now in
    let src = c.args.src.now in
    let rows = g.R.RowStore.rows c.args.rows.now in
    let walk : c.rows_in-paths.result ≡ rows_in rows (span.PathsFrom net src) =
    c.rows_in-paths.ensures
    ∙ (λ i. rows_in rows (span.PathsFrom (c.in_ok-clone.ensures.cases i) (c.in_ok-clone-2.ensures.cases i))) in
    IfOk-weaker c.pairs_walked-pairs.result _ _
    (λ pairs told. told ∙ (ap (filter_map pair_in) walk ∙ pairs_walked net src rows c.requires.sorted))
    c.pairs_walked-pairs.ensures
