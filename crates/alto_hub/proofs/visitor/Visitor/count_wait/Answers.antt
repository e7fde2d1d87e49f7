use Rattle.alto_hub.proofs.EventLemmas.{seat_waits}
use Rattle.alto_hub.proofs.visitor.Visitor.count_wait.Goals as goal

pub returns : goal.returns
returns g c = rw (← c.self.view_is) (seat_waits _ _ _ _ _ _ c.saturating_add-self-inside.ensures)
