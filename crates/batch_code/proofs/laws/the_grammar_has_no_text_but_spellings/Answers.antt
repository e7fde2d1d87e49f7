use Rattle.batch_code.proofs.SpelledLemmas.{batch_in, head_in}
use Rattle.batch_code.proofs.laws.the_grammar_has_no_text_but_spellings.Goals as goal

pub returns-clause-batches : goal.returns-clause-batches
returns-clause-batches c = batch_in

pub returns-clause-heads : goal.returns-clause-heads
returns-clause-heads c = head_in
