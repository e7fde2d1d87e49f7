use Rattle.alto_maps.proofs.TouchingLemmas.{only_touching}
use Rattle.alto_maps.proofs.laws.only_touching_places_count.Goals as goal

pub returns : goal.returns
returns c = only_touching
