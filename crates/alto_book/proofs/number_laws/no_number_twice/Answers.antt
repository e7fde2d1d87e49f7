use Rattle.alto_book.proofs.PushLemmas.{numbers_rise, given_is_next}
use Rattle.alto_book.proofs.number_laws.no_number_twice.Goals as goal

pub returns-clause-later : goal.returns-clause-later
returns-clause-later c = numbers_rise

pub returns-clause-next : goal.returns-clause-next
returns-clause-next c = given_is_next
