use Rattle.std.proofs.Common.{ap, sym, ◌∙◌, filter, map}
use Rattle.std.proofs.lemmas.Result.{IfOk-weaker}
use Rattle.json_tree.specs.Document.{object_of}
use Rattle.alto_rows.specs.declared.key.Key.TheVariants as key
use Rattle.alto_rows.specs.Rows.{has_row}
use Rattle.alto_maps.specs.Shape.{section_object}
use Rattle.net_docs.specs.Ask.{NetAskData}
use Rattle.net_docs.specs.Filter.{asked_group, filtered_face}
use Rattle.net_docs.specs.NetworkMap.{net_face, pids_of}
use Rattle.net_docs.specs.declared.ask.Pick.{Pick}
use Rattle.net_docs.proofs.FilterLemmas.{all_asked, some_asked}
use Rattle.net_docs.proofs.filter.groups.Goals as goal

pub returns-in-All : goal.returns-in-All
returns-in-All g c =
    let net = c.args.net.now in
    let rows = g.R.RowStore.rows c.args.rows.now in
    IfOk-weaker c.all_groups.result _ _
    (λ tree is.
    is
    ∙ (ap (λ families. object_of (map (λ pid. (pid, asked_group rows net families pid)) (pids_of rows net)))
    c.deref.ensures.value
    ∙ (all_asked rows net c.ask.inside.families.items
    ∙ ap (λ (ask : NetAskData). section_object (filtered_face ask (net_face net rows)))
    (ap (λ (pids : Pick). record { pids = pids; families = c.ask.inside.families.items }) (sym c.in-All.is)
    ∙ c.ask.view_is))))
    c.all_groups.ensures

pub returns-in-Only : goal.returns-in-Only
returns-in-Only g c =
    let net = c.args.net.now in
    let rows = g.R.RowStore.rows c.args.rows.now in
    IfOk-weaker c.groups_among.result _ _
    (λ tree is.
    is
    ∙ ((λ i. object_of (map (λ pid. (pid, asked_group rows net (c.deref-in-Only.ensures.value i) pid))
    (filter (λ pid. has_row rows (key.Pid net pid)) (c.as_slice.ensures i))))
    ∙ (some_asked rows net c.ask.inside.families.items c.in-Only.pids
    ∙ ap (λ (ask : NetAskData). section_object (filtered_face ask (net_face net rows)))
    (ap (λ (pids : Pick). record { pids = pids; families = c.ask.inside.families.items }) (sym c.in-Only.is)
    ∙ c.ask.view_is))))
    c.groups_among.ensures
