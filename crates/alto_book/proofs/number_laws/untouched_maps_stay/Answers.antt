use Rattle.alto_book.proofs.MapLemmas.{untouched_map, last_map}
use Rattle.alto_book.proofs.number_laws.untouched_maps_stay.Goals as goal

pub returns-clause-batch : goal.returns-clause-batch
returns-clause-batch c = untouched_map

pub returns-clause-now : goal.returns-clause-now
returns-clause-now c = last_map
