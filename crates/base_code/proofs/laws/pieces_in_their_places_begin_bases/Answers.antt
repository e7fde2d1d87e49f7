use Rattle.base_code.proofs.BaseLemmas.{goes_on}
use Rattle.base_code.proofs.laws.pieces_in_their_places_begin_bases.Goals as goal

pub returns : goal.returns
returns c = goes_on
