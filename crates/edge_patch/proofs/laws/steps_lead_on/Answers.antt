use Rattle.edge_patch.proofs.StepLemmas.{step_leads_on, step_operates}
use Rattle.edge_patch.proofs.laws.steps_lead_on.Goals as goal

pub returns-clause-merged : goal.returns-clause-merged
returns-clause-merged c = step_leads_on

pub returns-clause-operated : goal.returns-clause-operated
returns-clause-operated c = step_operates
