use Rattle.base_code.proofs.BaseLemmas.{front_of_base}
use Rattle.base_code.proofs.BeginningLemmas.{front_in_place}
use Rattle.base_code.proofs.laws.first_pieces_are_in_their_places.Goals as goal

pub returns-clause-bases : goal.returns-clause-bases
returns-clause-bases c = front_of_base

pub returns-clause-fronts : goal.returns-clause-fronts
returns-clause-fronts c pieces n is = front_in_place n pieces is
