use Rattle.alto_book.proofs.TrimNumberLemmas.{trim_keeps_numbers}
use Rattle.alto_book.proofs.number_laws.trim_keeps_numbers.Goals as goal

pub returns : goal.returns
returns c = trim_keeps_numbers
