use Rattle.std.proofs.Common.{Some, ap, ◌∙◌}
use Rattle.std.proofs.lemmas.Result.{IfOk-weaker}
use Rattle.edge_patch.specs.Documents as documents
use Rattle.alto_book.specs.Walks.{document_at}
use Rattle.alto_drill.specs.Trials.{with_contents}
use Rattle.alto_drill.proofs.EdgeLemmas.{good_end, good_start, here_too, low_of_span, patch_contents, rows_end}
use Rattle.alto_drill.proofs.EdgeLemmas.{rows_start, some_end, some_start, whole_contents}
use Rattle.alto_drill.proofs.patches.try_edge.Goals as goal

pub unreachable-requires : goal.unreachable-requires
unreachable-requires g c = some_end _ _ _ _ _ c.requires.1 c.requires.2 c.in_default.ensures

pub try_document-requires-clause-good : goal.try_document-requires-clause-good
try_document-requires-clause-good g c =
    let rows = rows_end _ _ _ _ _ _ c.requires.1 c.requires.2 c.in-Some.ensures in
    (good_end _ _ _ _ _ _ c.requires.1 c.requires.2 (ap g.R.RowStore.rows c.deref.ensures ∙ rows)).0

pub try_document-requires-clause-declared : goal.try_document-requires-clause-declared
try_document-requires-clause-declared g c =
    let rows = rows_end _ _ _ _ _ _ c.requires.1 c.requires.2 c.in-Some.ensures in
    (good_end _ _ _ _ _ _ c.requires.1 c.requires.2 (ap g.R.RowStore.rows c.deref.ensures ∙ rows)).1

pub returns-in_default-2 : goal.returns-in_default-2
returns-in_default-2 g c =
    IfOk-weaker c.try_document.result _ _
    (λ done made book is.
    let here = here_too _ _ _ _ c.args.i c.args.j c.requires.1 is c.requires.2 in
    let rows = rows_end _ _ _ c.args.i c.args.j _ is here c.in-Some.ensures in
    let same = ap g.R.RowStore.rows c.deref.ensures ∙ rows in
    let holds = whole_contents _ _ _ c.args.i c.args.j _ is here same (rw c.in_default-2.is at c.in_ok-keys.ensures) in
    made (document_at book c.args.of.now c.args.i)
    ∙ (λ n. with_contents (document_at book c.args.of.now c.args.i) (documents.document c.args.of.now (same n))
    (holds n) c.args.trials.now))
    c.try_document.ensures

pub unreachable-requires-in_default-rows_at : goal.unreachable-requires-in_default-rows_at
unreachable-requires-in_default-rows_at g c =
    let low = low_of_span _ _ _ _ _ _ c.requires.1 (rw c.in-Some-2.is at c.in_ok-keys.ensures) in
    some_start _ _ _ _ _ c.requires.1 c.requires.2 low c.in_default-rows_at.ensures

pub try_patches-requires-clause-good_before : goal.try_patches-requires-clause-good_before
try_patches-requires-clause-good_before g c =
    let low = low_of_span _ _ _ _ _ _ c.requires.1 (rw c.in-Some-2.is at c.in_ok-keys.ensures) in
    let before = rows_start _ _ _ _ _ _ c.requires.1 c.requires.2 low c.in-Some-rows_at.ensures in
    (good_start _ _ _ _ _ _ c.requires.1 c.requires.2 low (ap g.R.RowStore.rows c.deref-2.ensures ∙ before)).0

pub try_patches-requires-clause-declared_before : goal.try_patches-requires-clause-declared_before
try_patches-requires-clause-declared_before g c =
    let low = low_of_span _ _ _ _ _ _ c.requires.1 (rw c.in-Some-2.is at c.in_ok-keys.ensures) in
    let before = rows_start _ _ _ _ _ _ c.requires.1 c.requires.2 low c.in-Some-rows_at.ensures in
    (good_start _ _ _ _ _ _ c.requires.1 c.requires.2 low (ap g.R.RowStore.rows c.deref-2.ensures ∙ before)).1

pub try_patches-requires-clause-good : goal.try_patches-requires-clause-good
try_patches-requires-clause-good g c =
    let rows = rows_end _ _ _ _ _ _ c.requires.1 c.requires.2 c.in-Some.ensures in
    (good_end _ _ _ _ _ _ c.requires.1 c.requires.2 (ap g.R.RowStore.rows c.deref-3.ensures ∙ rows)).0

pub try_patches-requires-clause-declared : goal.try_patches-requires-clause-declared
try_patches-requires-clause-declared g c =
    let rows = rows_end _ _ _ _ _ _ c.requires.1 c.requires.2 c.in-Some.ensures in
    (good_end _ _ _ _ _ _ c.requires.1 c.requires.2 (ap g.R.RowStore.rows c.deref-3.ensures ∙ rows)).1

pub returns : goal.returns
returns g c =
    IfOk-weaker c.try_patches.result _ _
    (λ done made book is.
    let here = here_too _ _ _ _ c.args.i c.args.j c.requires.1 is c.requires.2 in
    let low = low_of_span _ _ _ _ _ _ is (rw c.in-Some-2.is at c.in_ok-keys.ensures) in
    let before = ap g.R.RowStore.rows c.deref-2.ensures ∙ rows_start _ _ _ c.args.i c.args.j _ is here low
    c.in-Some-rows_at.ensures in
    let rows = ap g.R.RowStore.rows c.deref-3.ensures ∙ rows_end _ _ _ c.args.i c.args.j _ is here c.in-Some.ensures in
    let holds = patch_contents _ _ _ c.args.i c.args.j _ _ _ is here before rows
    (ap Some c.deref-4.ensures.value ∙ (rw c.in-Some-2.is at c.in_ok-keys.ensures)) in
    made ∙ (λ n. with_contents (documents.document c.args.of.now (before n)) (documents.document c.args.of.now (rows n))
    (holds n) c.args.trials.now))
    c.try_patches.ensures
