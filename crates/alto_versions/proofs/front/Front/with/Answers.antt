use Rattle.std.proofs.Common.{◌≡◌, ◌+◌, refl, ap, sym, subst, ◌∙◌}
use Rattle.std.proofs.lemmas.Option.{IfSome_then}
use Rattle.std.specs.Prelude.{List, IfSome}
use Rattle.std.specs.Arc.{arc_value}
use Rattle.alto_rows.specs.Accepted.{Accepted}
use Rattle.alto_rows.specs.declared.write.Write.{Write}
use Rattle.alto_rows.specs.Rows.{Rows, after}
use Rattle.alto_rows.specs.Versions.{resources_of}
use Rattle.alto_book.specs.Book.{rows_of}
use Rattle.alto_versions.specs.Front.{Version, tables_in}
use Rattle.alto_versions.specs.Graphs.{AreTouching, entries}
use Rattle.alto_versions.specs.Texts.{AreTextsOf, map_pieces, text_in}
use Rattle.alto_versions.proofs.CourseLemmas.{stands_more}
use Rattle.alto_versions.proofs.FoundKeyLemmas.{lists}
use Rattle.alto_versions.proofs.TextLemmas.{text_told}
use Rattle.alto_versions.proofs.front.Front.with.Goals as goal

pub graphs_after-requires-clause-good : goal.graphs_after-requires-clause-good
graphs_after-requires-clause-good g c =
    let led = ap g.R.RowStore.rows c.in_ok-rows.ensures.ok ∙ c.in_ok-with.ensures in
    rw (led, c.deref.ensures, c.deref-2.ensures.value) (rw (← c.self.view_is, ← c.batch.view_is) at c.requires.good)

pub graphs_after-requires-clause-texts : goal.graphs_after-requires-clause-texts
graphs_after-requires-clause-texts g c = λ of.
    let before = g.R.RowStore.rows (arc_value c.self.inside.rows) in
    let same : g.R.RowStore.rows c.deref-10.result.now ≡ g.R.RowStore.rows (arc_value c.in_ok-rows.rows) =
    ap g.R.RowStore.rows c.deref-10.ensures in
    let led : g.R.RowStore.rows c.deref-10.result.now ≡ after before c.deref-11.result.now =
    same ∙ (ap g.R.RowStore.rows c.in_ok-rows.ensures.ok ∙ (c.in_ok-with.ensures
    ∙ rw (c.deref.ensures, c.deref-2.ensures.value, c.deref-11.ensures.value) refl)) in
    let had = c.in_ok-renewed.ensures.texts before led
    (subst (AreTextsOf before) (ap entries (sym c.deref-9.ensures.value)) c.self.invariant.0) in
    let told = text_told _ of (entries c.in_ok-renewed.renewed.texts.items) _ had refl in
    subst (λ texts. IfSome (text_in (entries texts) of) (λ text. text
    ≡ map_pieces (g.R.RowStore.rows (arc_value c.in_ok-rows.rows)) of))
    (sym c.deref-13.ensures.value)
    (IfSome_then (text_in (entries c.in_ok-renewed.renewed.texts.items) of) told
    (λ text is. is.whole ∙ ap (λ (rows : Rows). map_pieces rows of) same))

pub texts_after-requires-clause-resources : goal.texts_after-requires-clause-resources
texts_after-requires-clause-resources g c =
    c.in_ok-of_texts.ensures ∙ c.deref-4.ensures.value ∙ c.in_ok-resources.ensures
    ∙ ap resources_of (ap g.R.RowStore.rows (c.deref-3.ensures ∙ sym c.deref-10.ensures))

pub graphs_after-requires-clause-resources : goal.graphs_after-requires-clause-resources
graphs_after-requires-clause-resources g c =
    c.in_ok-of_graphs.ensures ∙ c.deref-5.ensures.value ∙ c.in_ok-resources.ensures
    ∙ ap resources_of (ap g.R.RowStore.rows c.deref-3.ensures)

pub graphs_after-requires-clause-keys : goal.graphs_after-requires-clause-keys
graphs_after-requires-clause-keys g c =
    let found = lists c.in_ok-renewed.renewed.keys.items in
    let all = resources_of (g.R.RowStore.rows (arc_value c.in_ok-rows.rows)) in
    subst (λ (writes : List Write). AreTouching writes found all)
    (c.deref-11.ensures.value ∙ sym c.deref-14.ensures.value)
    (subst (λ (rows : Rows). AreTouching c.deref-11.result.now found (resources_of rows))
    (ap g.R.RowStore.rows c.deref-10.ensures) c.in_ok-renewed.ensures.keys)

pub returns : goal.returns
returns g c = λ book legal legal_more stands.
    let writes = ap (λ (batch : Accepted). batch.writes) c.batch.view_is in
    let led : g.R.RowStore.rows (arc_value c.in_ok-rows.rows) ≡ after c.args.self.now.rows c.args.batch.now.writes =
    ap g.R.RowStore.rows c.in_ok-rows.ensures.ok ∙ (c.in_ok-with.ensures
    ∙ rw (c.deref.ensures, c.deref-2.ensures.value, writes)
    (ap (λ (version : Version). after version.rows c.args.batch.now.writes) c.self.view_is)) in
    let seen : g.R.RowStore.rows c.deref-16.result.now ≡ after (rows_of book) c.deref-17.result.now =
    rw (c.deref-17.ensures.value, writes)
    (ap g.R.RowStore.rows c.deref-16.ensures
    ∙ (led ∙ ap (λ (rows : Rows). after rows c.args.batch.now.writes) stands.current)) in
    stands_more book c.args.batch.now c.args.self.now _ stands
    (ap (λ (version : Version). version.n + 1) c.self.view_is)
    led
    (λ current. c.in_ok-graphs.ensures.later book c.args.batch.now legal legal_more
    current (c.deref-14.ensures.value ∙ writes)
    (ap entries c.deref-12.ensures.value ∙ (ap (λ (version : Version). version.graphs) c.self.view_is ∙ stands.graphs)))
    (λ current. c.in_ok-tables.ensures (rows_of book) seen
    (ap entries c.deref-15.ensures.value ∙ (ap (λ (version : Version). version.tables) c.self.view_is ∙ stands.tables))
    ∙ ap tables_in (ap g.R.RowStore.rows c.deref-16.ensures ∙ current))
