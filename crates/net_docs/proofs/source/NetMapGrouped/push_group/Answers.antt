use Rattle.std.proofs.Common.{sym, ◌∙◌}
use Rattle.net_docs.proofs.SourceLemmas.{found_standing}
use Rattle.net_docs.proofs.source.NetMapGrouped.push_group.Goals as goal

pub unreachable-requires : goal.unreachable-requires
unreachable-requires g c =
    found_standing (g.R.RowStore.rows c.self.inside.rows.now) c.self.inside.net.now c.args.name.now
    (rw (← c.self.view_is) at c.requires)
    (sym c.in_ok-pid.ensures ∙ c.in-None.is)
