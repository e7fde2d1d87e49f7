use Rattle.json_patch.proofs.OperationListLemmas.{read_back}
use Rattle.json_patch.proofs.laws.operations_read_back.Goals as goal

pub returns : goal.returns
returns c = read_back
