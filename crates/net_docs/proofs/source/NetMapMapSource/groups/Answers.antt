use Rattle.net_docs.proofs.source.NetMapMapSource.groups.Goals as goal

pub returns : goal.returns
returns g c = rw (← c.self.view_is) c.groups.ensures
