use Rattle.alto_book.proofs.RepeatLemmas.{accepted_again}
use Rattle.alto_book.proofs.laws.receipt_is_kept.Goals as goal

pub returns : goal.returns
returns c = accepted_again
