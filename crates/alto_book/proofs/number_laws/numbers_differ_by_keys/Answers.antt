use Rattle.alto_book.proofs.MapLemmas.{numbers_differ}
use Rattle.alto_book.proofs.number_laws.numbers_differ_by_keys.Goals as goal

pub returns : goal.returns
returns c = numbers_differ
