use Rattle.alto_serve.proofs.SoloLemmas.{solo_look_lost}
use Rattle.alto_serve.proofs.TurnLemmas.{on_err_anyhow}
use Rattle.alto_serve.proofs.solo.SoloLooks.look.Goals as goal

pub returns-clause-lost : goal.returns-clause-lost
returns-clause-lost g c =
    on_err_anyhow c.at.result
    (solo_look_lost c.args.self.now.desk.ledger.book _ _ _ _ c.front.ensures.legal c.saturating_add-self.ensures)
