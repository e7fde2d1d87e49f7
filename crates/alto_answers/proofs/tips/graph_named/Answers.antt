use Rattle.std.proofs.Common.{◌≡◌, Some, ap, sym, subst, ◌∙◌}
use Rattle.alto_versions.specs.Front.{Version}
use Rattle.alto_rows.specs.Good.{AreGood}
use Rattle.alto_rows.specs.Ids.{resource_named}
use Rattle.alto_answers.proofs.NamedLemmas.{graph_of_named, version_good}
use Rattle.alto_answers.proofs.tips.graph_named.Goals as goal

pub find_resource-requires : goal.find_resource-requires
find_resource-requires g c =
    let rows = ap g.R.RowStore.rows c.deref.ensures ∙ ap (λ (version : Version). version.rows) c.front.view_is in
    subst AreGood (sym rows) (version_good _ c.requires)

pub returns-in-Some : goal.returns-in-Some
returns-in-Some g c =
    let rows = ap g.R.RowStore.rows c.deref.ensures ∙ ap (λ (version : Version). version.rows) c.front.view_is in
    let named : Some c.in-Some.of ≡ resource_named c.args.front.now.rows c.args.text.now =
    sym c.in-Some.is ∙ (c.in_ok-of.ensures ∙ (ap (λ all. resource_named all c.as_bytes.result.now) rows
    ∙ ap (resource_named c.args.front.now.rows) c.as_bytes.ensures.value)) in
    λ book legal stands. graph_of_named c.args.front.now book c.args.text.now c.in-Some.of stands named
    ∙ sym c.graph.ensures
