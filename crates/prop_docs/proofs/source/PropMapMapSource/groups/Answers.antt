use Rattle.prop_docs.proofs.source.PropMapMapSource.groups.Goals as goal

pub returns : goal.returns
returns g c = rw (← c.self.view_is) c.groups.ensures
