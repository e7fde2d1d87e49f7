use Rattle.alto_edits.proofs.LawLemmas.{compiled_rows_are_good}
use Rattle.alto_edits.proofs.laws.compiled_rows_are_good.Goals as goal

pub returns : goal.returns
returns c = compiled_rows_are_good
