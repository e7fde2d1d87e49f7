use Rattle.alto_hub.proofs.seat.SeatHubOffice.wait.Goals as goal

pub returns-clause-waited : goal.returns-clause-waited
returns-clause-waited g c = rw (← c.self.view_is) c.count_wait.ensures
