-- The copy of the id is the id.
use Rattle.alto_desk.proofs.places.Places.put.Goals as goal

pub returns-clause-put : goal.returns-clause-put
returns-clause-put c = λ other.
    rw (← c.self.view_is, ← c.in_ok-clone.ensures.cases) (c.in_ok-insert.ensures.updates.0 other)
