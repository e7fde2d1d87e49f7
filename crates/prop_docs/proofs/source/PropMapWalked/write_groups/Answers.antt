use Rattle.prop_docs.proofs.source.PropMapWalked.write_groups.Goals as goal

pub returns : goal.returns
returns g c = rw (← c.self.view_is) c.write_groups.ensures
