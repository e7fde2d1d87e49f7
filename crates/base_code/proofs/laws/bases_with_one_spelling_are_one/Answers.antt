use Rattle.base_code.proofs.BaseLemmas.{base_once}
use Rattle.base_code.proofs.laws.bases_with_one_spelling_are_one.Goals as goal

pub returns : goal.returns
returns c = base_once
