use Rattle.alto_book.proofs.WalkLemmas.{bodies_stay}
use Rattle.alto_book.proofs.walk_laws.bodies_stay.Goals as goal

pub returns : goal.returns
returns c = bodies_stay
