use Rattle.alto_book.proofs.EarlierLemmas.{earlier_is_legal}
use Rattle.alto_book.proofs.walk_laws.earlier_books_are_legal.Goals as goal

pub returns : goal.returns
returns c = earlier_is_legal
