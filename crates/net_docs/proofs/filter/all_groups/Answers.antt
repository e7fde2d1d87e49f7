use Rattle.std.proofs.Common.{List, ap, ◌∙◌, map}
use Rattle.std.proofs.lemmas.Result.{IfOk-weaker}
use Rattle.json_tree.specs.Document.{object_of}
use Rattle.alto_maps.specs.Shape.{Name}
use Rattle.net_docs.specs.Filter.{asked_group}
use Rattle.net_docs.proofs.filter.all_groups.Goals as goal

pub returns : goal.returns
returns g c =
    let net = c.args.net.now in
    let rows = g.R.RowStore.rows c.args.rows.now in
    IfOk-weaker c.groups_of.result _ _
    (λ tree is. is ∙ ap (λ (pids : List Name).
    object_of (map (λ pid. (pid, asked_group rows net c.args.families.now pid)) pids))
    (c.deref.ensures.value ∙ c.in_ok-pids.ensures))
    c.groups_of.ensures
