use Rattle.batch_code.proofs.OnceLemmas.{batch_once}
use Rattle.batch_code.proofs.laws.batches_with_one_spelling_are_one.Goals as goal

pub returns : goal.returns
returns c = batch_once
