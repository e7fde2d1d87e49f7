use Rattle.std.proofs.Common.{◌∙◌}
use Rattle.std.proofs.lemmas.Result.{IfOk-weaker}
use Rattle.cost_docs.proofs.SourceLemmas.{groups_as_are}
use Rattle.cost_docs.proofs.source.CostMapMapSource.groups.Goals as goal

pub returns : goal.returns
returns g c =
    rw (← c.self.view_is)
    (IfOk-weaker c.groups.result _ _
    (λ tree is. is ∙ groups_as_are c.self.inside.net.now c.self.inside.metric.now
    (g.R.RowStore.rows c.self.inside.rows.now))
    c.groups.ensures)
