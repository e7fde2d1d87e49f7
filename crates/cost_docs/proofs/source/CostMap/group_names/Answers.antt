use Rattle.std.proofs.Common.{sym, ◌∙◌}
use Rattle.std.proofs.lemmas.Result.{IfOk-weaker}
use Rattle.cost_docs.proofs.NameLemmas.{sources_set}
use Rattle.cost_docs.proofs.source.CostMap.group_names.Goals as goal

pub returns : goal.returns
returns g c =
    rw (← c.self.view_is)
    (IfOk-weaker c.group_names.result _ _
    (λ names is. is ∙ sym (sources_set c.self.inside.net.now c.self.inside.metric.now
    (g.R.RowStore.rows c.self.inside.rows.now)))
    c.group_names.ensures)
