use Rattle.batch_code.proofs.OnceLemmas.{head_once}
use Rattle.batch_code.proofs.laws.heads_with_one_spelling_are_one.Goals as goal

pub returns : goal.returns
returns c = head_once
