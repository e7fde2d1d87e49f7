-- What an edge holds, by the graph.
use Rattle.std.proofs.Common.{◌≡◌, Some, ap, sym, ◌∙◌}
use Rattle.std.specs.Arc.{arc_value}
use Rattle.std.specs.Cow.{cow_slice_items}
use Rattle.serde_json.specs.Written.{compact_text}
use Rattle.alto_book.specs.Walks.{content_data, patch}
use Rattle.alto_replies.specs.Replies.{ok_reply}
use Rattle.alto_versions.proofs.PushedLemmas.{span_rises}
use Rattle.tips_graph.specs.Graph.{GraphData, rows_at, span_of}
use Rattle.alto_answers.proofs.EdgeLemmas.{here_too, low_of_span, patched, patch_replied, rows_began, rows_begin}
use Rattle.alto_answers.proofs.EdgeLemmas.{rows_good}
use Rattle.alto_answers.proofs.EdgeLemmas.{rows_good_before, rows_here, rows_there, whole_document}
use Rattle.alto_answers.proofs.edges.edge_reply.Goals.{in-Some-patch+in_ok-patch-in-Some-patch}
use Rattle.alto_answers.proofs.edges.edge_reply.Goals.{in-None+in_ok-patch-in-None}
use Rattle.alto_answers.proofs.edges.edge_reply.Goals as goal

pub unreachable-requires : goal.unreachable-requires
unreachable-requires g c =
    rows_there _ _ _ _ _ c.requires.1 c.requires.2
    (c.in_default.ensures ∙ ap (λ (graph : GraphData). rows_at graph c.args.j) c.graph-graph.ensures)

pub document_at-requires-clause-good : goal.document_at-requires-clause-good
document_at-requires-clause-good g c =
    let rows = rows_here _ _ _ _ _ _ c.requires.1 c.requires.2
    (c.in-Some.ensures ∙ ap (λ (graph : GraphData). rows_at graph c.args.j) c.graph-graph.ensures) in
    (rows_good _ _ _ _ _ _ c.requires.1 c.requires.2 (ap g.R.RowStore.rows c.deref.ensures ∙ rows)).0

pub document_at-requires-clause-declared : goal.document_at-requires-clause-declared
document_at-requires-clause-declared g c =
    let rows = rows_here _ _ _ _ _ _ c.requires.1 c.requires.2
    (c.in-Some.ensures ∙ ap (λ (graph : GraphData). rows_at graph c.args.j) c.graph-graph.ensures) in
    (rows_good _ _ _ _ _ _ c.requires.1 c.requires.2 (ap g.R.RowStore.rows c.deref.ensures ∙ rows)).1

pub document_at-requires-clause-number : goal.document_at-requires-clause-number
document_at-requires-clause-number g c =
    ap Some (ap g.R.RowStore.rows c.deref.ensures)
    ∙ (c.in-Some.ensures ∙ ap (λ (graph : GraphData). rows_at graph c.args.j) c.graph-graph.ensures)

pub returns-in_default-2-clause-reply : goal.returns-in_default-2-clause-reply
returns-in_default-2-clause-reply g c =
    λ book is.
    let here = here_too _ _ _ _ c.args.i c.args.j c.requires.1 is c.requires.2 in
    let rows = rows_here _ _ _ c.args.i c.args.j _ is here
    (c.in-Some.ensures ∙ ap (λ (graph : GraphData). rows_at graph c.args.j) c.graph-graph.ensures) in
    c.ok_reply.ensures.reply ∙ rw (c.media_type.ensures, c.in_ok-document.ensures)
    (whole_document _ _ _ c.args.form _ _ _ is here (ap g.R.RowStore.rows c.deref.ensures ∙ rows)
    ((rw c.in_default-2.is at c.in_ok-keys.ensures) ∙ ap (λ (graph : GraphData). span_of graph c.args.i c.args.j)
    c.graph-graph.ensures))

pub unreachable-requires-in_default-rows_at : goal.unreachable-requires-in_default-rows_at
unreachable-requires-in_default-rows_at g c =
    let low = low_of_span _ _ _ _ _ _ c.requires.1
    ((rw c.in-Some-2.is at c.in_ok-keys.ensures) ∙ ap (λ (graph : GraphData). span_of graph c.args.i c.args.j)
    c.graph-graph.ensures) in
    rows_began _ _ _ _ _ c.requires.1 c.requires.2 low
    (c.in_default-rows_at.ensures ∙ ap (λ (graph : GraphData). rows_at graph c.args.i) c.graph-graph.ensures)

pub patch_text-requires : goal.patch_text-requires
patch_text-requires g c =
    let rows = rows_here _ _ _ _ _ _ c.requires.1 c.requires.2
    (c.in-Some.ensures ∙ ap (λ (graph : GraphData). rows_at graph c.args.j) c.graph-graph.ensures) in
    let low = low_of_span _ _ _ _ _ _ c.requires.1
    ((rw c.in-Some-2.is at c.in_ok-keys.ensures) ∙ ap (λ (graph : GraphData). span_of graph c.args.i c.args.j)
    c.graph-graph.ensures) in
    let before = rows_begin _ _ _ _ _ _ c.requires.1 c.requires.2 low
    (c.in-Some-rows_at.ensures ∙ ap (λ (graph : GraphData). rows_at graph c.args.i) c.graph-graph.ensures) in
    let good = rows_good _ _ _ _ _ _ c.requires.1
    c.requires.2 (ap g.R.RowStore.rows c.deref-in-None-2.ensures ∙ rows) in
    record {
      good_before = rows_good_before _ _ _ _ _ c.requires.1 (ap g.R.RowStore.rows c.deref-in-None.ensures ∙ before);
      good = good.0;
      declared = good.1;
      rising =
          span_rises c.graph-graph.result.now c.args.i c.args.j _
          (ap Some c.deref-in-None-3.ensures.value ∙ (rw c.in-Some-2.is at c.in_ok-keys.ensures));
    }

pub returns-clause-reply : goal.returns-clause-reply
returns-clause-reply g c =
    let earlier = g.R.RowStore.rows (arc_value c.in-Some-rows_at.before.now) in
    let later = g.R.RowStore.rows (arc_value c.in-Some.rows.now) in
    let keys = cow_slice_items c.in-Some-2.keys in
    let from = c.in-Some-rows_at.ensures ∙ ap (λ (graph : GraphData). rows_at graph c.args.i) c.graph-graph.ensures in
    let to = c.in-Some.ensures ∙ ap (λ (graph : GraphData). rows_at graph c.args.j) c.graph-graph.ensures in
    let span = (rw c.in-Some-2.is at c.in_ok-keys.ensures) ∙ ap (λ (graph : GraphData). span_of graph c.args.i c.args.j)
    c.graph-graph.ensures in
    let text : c.match-patch.patch.items
    ≡ compact_text (content_data (patch c.args.form c.args.resource.now earlier later keys)) =
    elim c.match-patch.branch [
      | in-Some-patch+in_ok-patch-in-Some-patch w ↦
          rw w.patch-is
          (w.in_ok-patch-in-Some-patch.ensures.items_if_clones_equal (λ a b same. same)
          ∙ (rw w.in-Some-patch.is at c.patch.ensures) earlier later keys (sym from) (sym to) (sym span))
      | in-None+in_ok-patch-in-None w ↦
          rw w.patch-is
          (rw (w.deref-in-None.ensures, w.deref-in-None-2.ensures, w.deref-in-None-3.ensures.value)
          at w.in_ok-patch-in-None.ensures)
    ] in
    λ book is.
    let here = here_too _ _ _ _ c.args.i c.args.j c.requires.1 is c.requires.2 in
    let low = low_of_span _ _ _ _ _ _ is span in
    c.ok_reply-2.ensures.reply
    ∙ (ap (λ body. ok_reply c.patch_type.result.now body) c.of_bytes.ensures
    ∙ (ap (λ kind. ok_reply kind c.match-patch.patch.items) c.patch_type.ensures
    ∙ (patch_replied c.args.form c.args.resource.now earlier later keys c.match-patch.patch.items text
    ∙ patched _ _ _ c.args.form _ _ _ _ _ is here (rows_begin _ _ _ c.args.i c.args.j _ is here low from)
    (rows_here _ _ _ c.args.i c.args.j _ is here to) span)))
