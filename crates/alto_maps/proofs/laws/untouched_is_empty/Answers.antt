use Rattle.alto_maps.proofs.TouchingLemmas.{untouched_empty}
use Rattle.alto_maps.proofs.laws.untouched_is_empty.Goals as goal

pub returns : goal.returns
returns c = untouched_empty
