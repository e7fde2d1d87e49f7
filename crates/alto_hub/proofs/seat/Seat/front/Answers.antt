use Rattle.alto_hub.proofs.seat.Seat.front.Goals as goal

pub returns-clause-stands : goal.returns-clause-stands
returns-clause-stands g c = c.look.ensures.stands

pub returns-clause-looked : goal.returns-clause-looked
returns-clause-looked g c = rw (← c.self.view_is) c.look.ensures.looked

pub returns-clause-lost : goal.returns-clause-lost
returns-clause-lost g c = rw (← c.self.view_is) c.look.ensures.lost
