use Rattle.std.proofs.Common.{◌≡◌, Some, ap, sym, subst, ◌∙◌}
use Rattle.std.proofs.lemmas.Result.{IfOk-weaker}
use Rattle.alto_book.specs.Book.{rows_of}
use Rattle.alto_versions.specs.Front.{Version}
use Rattle.alto_rows.specs.Good.{AreGood}
use Rattle.alto_rows.specs.Ids.{resource_named}
use Rattle.alto_answers.proofs.EdgeLemmas.{graph_some}
use Rattle.alto_answers.proofs.NamedLemmas.{named_declared, named_has_graph, version_good}
use Rattle.alto_answers.proofs.NewestLemmas.{newest_edge}
use Rattle.alto_answers.proofs.edges.named_edge.Goals as goal

pub find_resource-requires : goal.find_resource-requires
find_resource-requires g c =
    let rows = ap g.R.RowStore.rows c.deref.ensures ∙ ap (λ (version : Version). version.rows) c.front.view_is in
    subst AreGood (sym rows) (version_good _ c.requires)

pub unreachable-requires : goal.unreachable-requires
unreachable-requires g c =
    let rows = ap g.R.RowStore.rows c.deref.ensures ∙ ap (λ (version : Version). version.rows) c.front.view_is in
    let named : Some c.in-Some.of ≡ resource_named c.args.front.now.rows c.args.resource.now =
    sym c.in-Some.is ∙ (c.in_ok-of.ensures ∙ ap (λ all. resource_named all c.args.resource.now) rows) in
    named_has_graph c.args.front.now c.args.resource.now c.in-Some.of c.requires
    named (rw c.in_default-followed.is at c.followed.ensures)

pub newest_reply-requires : goal.newest_reply-requires
newest_reply-requires g c =
    let rows = ap g.R.RowStore.rows c.deref.ensures ∙ ap (λ (version : Version). version.rows) c.front.view_is in
    named_declared c.args.front.now.rows c.args.resource.now c.in-Some.of
    (sym c.in-Some.is ∙ (c.in_ok-of.ensures ∙ ap (λ all. resource_named all c.args.resource.now) rows))

pub returns-then-is_newest-clause-answer : goal.returns-then-is_newest-clause-answer
returns-then-is_newest-clause-answer g c =
    let rows = ap g.R.RowStore.rows c.deref.ensures ∙ ap (λ (version : Version). version.rows) c.front.view_is in
    let named : Some c.in-Some.of ≡ resource_named c.args.front.now.rows c.args.resource.now =
    sym c.in-Some.is ∙ (c.in_ok-of.ensures ∙ ap (λ all. resource_named all c.args.resource.now) rows) in
    let ends = c.is_newest.ensures c.if-is_newest.true in
    λ book legal stands.
    newest_edge c.args.front.now _ book c.in-Some.of c.args.form c.args.resource.now c.args.i.now c.args.j.now _
    legal stands (ap Some c.graph.ensures ∙ c.in-Some-followed.ensures) named
    (sym c.edge_number-i.ensures ∙ ends.0) (sym c.edge_number-j.ensures ∙ ends.1) ends.2
    c.in_ok-newest_reply.ensures.reply

pub numbered_edge-requires : goal.numbered_edge-requires
numbered_edge-requires g c = (c.requires.0, graph_some _ _ _ _ c.requires.1 c.requires.2 c.in-Some-followed.ensures)

pub returns-clause-answer : goal.returns-clause-answer
returns-clause-answer g c =
    let rows = ap g.R.RowStore.rows c.deref.ensures ∙ ap (λ (version : Version). version.rows) c.front.view_is in
    let named : Some c.in-Some.of ≡ resource_named c.args.front.now.rows c.args.resource.now =
    sym c.in-Some.is ∙ (c.in_ok-of.ensures ∙ ap (λ all. resource_named all c.args.resource.now) rows) in
    IfOk-weaker c.numbered_edge.result _ _
    (λ answer made book legal stands.
    let found : resource_named (rows_of book) c.args.resource.now ≡ Some c.in-Some.of =
    ap (λ all. resource_named all c.args.resource.now) (sym stands.current) ∙ sym named in
    rw (found, ← c.edge_number-i.ensures, ← c.edge_number-j.ensures)
    (made book (graph_some _ _ _ _ legal stands c.in-Some-followed.ensures)))
    c.numbered_edge.ensures.answer
