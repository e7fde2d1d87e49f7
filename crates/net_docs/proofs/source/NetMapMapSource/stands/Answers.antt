use Rattle.std.proofs.Common.{ap, ◌∙◌, is_some}
use Rattle.net_docs.proofs.SourceLemmas.{standing}
use Rattle.net_docs.proofs.source.NetMapMapSource.stands.Goals as goal

pub returns : goal.returns
returns g c =
    rw (← c.self.view_is)
    (c.is_some.ensures
    ∙ (ap is_some c.in_ok-pid_standing.ensures ∙ standing (g.R.RowStore.rows c.self.inside.rows.now)
    c.self.inside.net.now c.args.name.now))
