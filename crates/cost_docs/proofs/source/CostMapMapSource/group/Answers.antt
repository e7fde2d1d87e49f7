use Rattle.std.proofs.Common.{ap, ◌∙◌, None, ◌≡◌}
use Rattle.std.proofs.lemmas.Result.{IfOk-weaker}
use Rattle.cost_docs.specs.Costs.{group_shown}
use Rattle.cost_docs.proofs.SourceLemmas.{group_as_is, standing_named}
use Rattle.cost_docs.proofs.source.CostMapMapSource.group.Goals as goal

pub unreachable-requires : goal.unreachable-requires
unreachable-requires g c =
    (rw c.in-None.is at c.in_ok-source.ensures)
    (standing_named c.self.inside.net.now c.self.inside.metric.now c.args.name.now
    (g.R.RowStore.rows c.self.inside.rows.now) c.self.invariant
    (rw (← c.self.view_is) at c.requires))

pub returns : goal.returns
returns g c =
    let net = c.self.inside.net.now in
    let metric = c.self.inside.metric.now in
    let rows = g.R.RowStore.rows c.self.inside.rows.now in
    let named : c.in-Some.source ≡ c.args.name.now = rw c.in-Some.is at c.in_ok-source.ensures in
    rw (← c.self.view_is)
    (IfOk-weaker c.group.result _ _ (λ tree is. is
    ∙ (ap (group_shown None rows net metric) named ∙ group_as_is net metric c.args.name.now rows)) c.group.ensures)
