use Rattle.alto_book.proofs.AcceptanceLemmas.{accept_legal}
use Rattle.alto_book.proofs.laws.acceptance_keeps_legal.Goals as goal

pub returns : goal.returns
returns c = accept_legal
