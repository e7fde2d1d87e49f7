use Rattle.alto_maps.proofs.OperationLemmas.{operations_lead_on}
use Rattle.alto_maps.proofs.laws.operations_lead_on.Goals as goal

pub returns : goal.returns
returns c = operations_lead_on
