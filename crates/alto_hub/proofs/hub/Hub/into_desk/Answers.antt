use Rattle.alto_hub.proofs.HistoryLemmas.{grown_since_opening}
use Rattle.alto_hub.proofs.hub.Hub.into_desk.Goals as goal

pub returns-clause-grown : goal.returns-clause-grown
returns-clause-grown g c = rw c.desk.invariant.0.same (grown_since_opening _ _ c.desk.invariant.0.led)

pub returns-clause-backed : goal.returns-clause-backed
returns-clause-backed g c = c.desk.invariant.1
