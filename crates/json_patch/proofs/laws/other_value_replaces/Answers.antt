use Rattle.json_patch.proofs.MergeLemmas.{other_value}
use Rattle.json_patch.proofs.laws.other_value_replaces.Goals as goal

pub returns : goal.returns
returns c = other_value
