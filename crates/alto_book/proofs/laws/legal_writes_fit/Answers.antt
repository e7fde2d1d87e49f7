use Rattle.alto_book.proofs.laws.legal_writes_fit.Goals as goal

pub returns : goal.returns
returns c = λ book n batch legal there. (legal.each n batch there).fit
