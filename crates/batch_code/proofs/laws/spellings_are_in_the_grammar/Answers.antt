use Rattle.batch_code.proofs.BatchLemmas.{batch_text, head_text}
use Rattle.batch_code.proofs.laws.spellings_are_in_the_grammar.Goals as goal

pub returns-clause-batches : goal.returns-clause-batches
returns-clause-batches c = batch_text

pub returns-clause-heads : goal.returns-clause-heads
returns-clause-heads c = head_text
