use Rattle.net_docs.proofs.source.NetMapWalked.write_groups.Goals as goal

pub returns : goal.returns
returns g c = rw (← c.self.view_is) c.write_groups.ensures
