-- A graph that is begun keeps the version of the rows.
use Rattle.std.proofs.Common.{◌≡◌, ◌-◌, [], ap, ap₂, ◌∙◌}
use Rattle.std.proofs.lemmas.Result.{IfOk-weaker}
use Rattle.std.specs.Arc.{arc_value}
use Rattle.alto_rows.specs.Rows.{Rows}
use Rattle.alto_rows.specs.Versions.{version_of, window_of}
use Rattle.tips_graph.specs.Graph.{GraphData, graph_from, with_push}
use Rattle.alto_versions.specs.Graphs.{push_after}
use Rattle.alto_versions.proofs.graphs.graph_after.Goals as goal

pub returns-in_default : goal.returns-in_default
returns-in_default g c =
    let rows = g.R.RowStore.rows (arc_value c.args.rows.now) in
    let of = c.args.of.now in
    let window : c.window.result ≡ window_of rows =
    c.window.ensures.window ∙ ap window_of (ap g.R.RowStore.rows c.deref-in_default.ensures) in
    let version : c.version-version.result ≡ version_of rows of =
    c.version-version.ensures.number
    ∙ (ap (λ (all : Rows). version_of all c.in_ok-copy_of.field-0) (ap g.R.RowStore.rows c.deref.ensures)
    ∙ ap (version_of rows) c.in_ok-copy_of.ensures) in
    rw c.in_default.is
    (IfOk-weaker c.pushed.result _ _
    (λ later is. is ∙ ap (λ (graph : GraphData). with_push graph (push_after of rows c.args.writes.now))
    (c.in_ok-begun.ensures
    ∙ ap₂ (λ kept last. graph_from kept last []) window (c.saturating_sub.ensures ∙ ap (λ n. n - 1) version)))
    c.pushed.ensures)
