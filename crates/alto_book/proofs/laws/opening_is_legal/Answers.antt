use Rattle.alto_book.proofs.OpeningLemmas.{legal_opening}
use Rattle.alto_book.proofs.laws.opening_is_legal.Goals as goal

pub returns : goal.returns
returns c = legal_opening
