use Rattle.alto_hub.proofs.hub.Hub.edit.Goals as goal

pub returns-clause-answered : goal.returns-clause-answered
returns-clause-answered g c = rw (← c.visitor.view_is) (λ other. c.edit.ensures.answered other c.visitor.inside.waits)

pub returns-clause-lost : goal.returns-clause-lost
returns-clause-lost g c = rw (← c.visitor.view_is) (λ out. c.edit.ensures.lost out c.visitor.inside.waits)

pub returns-clause-stays : goal.returns-clause-stays
returns-clause-stays g c = rw (← c.visitor.view_is) c.edit.ensures.stays
