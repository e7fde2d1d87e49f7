use Rattle.alto_book.proofs.StateLemmas.{good_rows, good_state, rows_within}
use Rattle.alto_book.proofs.laws.legal_rows_are_good.Goals as goal

pub returns-clause-now : goal.returns-clause-now
returns-clause-now c = good_rows

pub returns-clause-each : goal.returns-clause-each
returns-clause-each c = good_state

pub returns-clause-within : goal.returns-clause-within
returns-clause-within c = rows_within
