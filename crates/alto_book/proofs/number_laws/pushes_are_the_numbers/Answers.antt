use Rattle.alto_book.proofs.BetweenLemmas.{length-pushes_of}
use Rattle.alto_book.proofs.PushLemmas.{push_of_batch, push_of_step, keys_of_pushes}
use Rattle.alto_book.proofs.number_laws.pushes_are_the_numbers.Goals as goal

pub returns-clause-numbered : goal.returns-clause-numbered
returns-clause-numbered c = length-pushes_of

pub returns-clause-batch : goal.returns-clause-batch
returns-clause-batch c = push_of_batch

pub returns-clause-step : goal.returns-clause-step
returns-clause-step c = push_of_step

pub returns-clause-keys : goal.returns-clause-keys
returns-clause-keys c = keys_of_pushes
