use Rattle.alto_book.proofs.PushLemmas.{given_once_each}
use Rattle.alto_book.proofs.number_laws.each_number_is_given_once.Goals as goal

pub returns : goal.returns
returns c = given_once_each
