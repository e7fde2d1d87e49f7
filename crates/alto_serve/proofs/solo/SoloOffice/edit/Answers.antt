use Rattle.alto_serve.proofs.SoloLemmas.{solo_lost, solo_submits}
use Rattle.alto_serve.proofs.solo.SoloOffice.edit.Goals as goal

pub returns-clause-answered : goal.returns-clause-answered
returns-clause-answered g c =
    solo_submits _ _ _ _ _ _ _ _ _ c.edit.ensures.legal c.saturating_add-self.ensures c.edit.result c.requires
    c.edit.ensures.tally c.edit.ensures.ok c.edit.ensures.accepted c.edit.ensures.err c.edit.ensures.unchanged

pub returns-clause-lost : goal.returns-clause-lost
returns-clause-lost g c =
    solo_lost _ _ _ _ _ _ _ _ _ c.edit.ensures.legal c.saturating_add-self.ensures c.edit.result
    c.edit.ensures.tally c.edit.ensures.unchanged
