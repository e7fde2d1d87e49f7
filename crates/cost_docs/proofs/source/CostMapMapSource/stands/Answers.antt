use Rattle.cost_docs.proofs.SourceLemmas.{none_unnamed}
use Rattle.cost_docs.proofs.source.CostMapMapSource.stands.Goals as goal

pub returns-in-None : goal.returns-in-None
returns-in-None g c =
    rw (← c.self.view_is)
    (none_unnamed c.self.inside.net.now c.self.inside.metric.now c.args.name.now
    (g.R.RowStore.rows c.self.inside.rows.now) c.self.invariant
    (rw c.in-None.is at c.in_ok-source.ensures))
