use Rattle.base_code.proofs.BaseLemmas.{one_place, version_two}
use Rattle.base_code.proofs.laws.one_piece_is_bad.Goals as goal

pub returns-clause-one : goal.returns-clause-one
returns-clause-one c = one_place

pub returns-clause-version : goal.returns-clause-version
returns-clause-version c = version_two
