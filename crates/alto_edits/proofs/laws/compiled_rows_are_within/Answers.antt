use Rattle.alto_edits.proofs.LimitLemmas.{compiled_rows_are_within}
use Rattle.alto_edits.proofs.laws.compiled_rows_are_within.Goals as goal

pub returns : goal.returns
returns c = compiled_rows_are_within
