use Rattle.std.proofs.Common.{◌∙◌}
use Rattle.std.proofs.lemmas.Result.{IfOk-weaker}
use Rattle.json_tree.specs.Tree.{data_of}
use Rattle.prop_filters.proofs.GroupLemmas.{map_shown}
use Rattle.prop_filters.proofs.filter.filter_prop.Goals as goal

pub returns : goal.returns
returns g c =
    IfOk-weaker c.document.result _ _
    (λ tree is.
    is
    ∙ map_shown (g.R.RowStore.rows c.args.rows.now) c.args.net.now c.args.ask.now (data_of c.in_ok-meta.meta)
    (data_of c.in_ok-groups.groups)
    c.in_ok-meta.ensures c.in_ok-groups.ensures)
    c.document.ensures
