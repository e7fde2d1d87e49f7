use Rattle.alto_book.proofs.StayLemmas.{rows_at_stay, keys_between_stay, first_kept_rises}
use Rattle.alto_book.proofs.number_laws.numbers_stay.Goals as goal

pub returns-clause-rows : goal.returns-clause-rows
returns-clause-rows c = rows_at_stay

pub returns-clause-keys : goal.returns-clause-keys
returns-clause-keys c = keys_between_stay

pub returns-clause-first_kept : goal.returns-clause-first_kept
returns-clause-first_kept c = first_kept_rises
