-- The column with a value is followed by the empty ones.
use Rattle.edit_forms.proofs.AnswerLemmas.{then_value}
use Rattle.edit_forms.proofs.columns.Columns.ane_add.Goals as goal

pub returns-clause-answer : goal.returns-clause-answer
returns-clause-answer c = then_value _ _ _ c.in_ok-ane.ane _ c.in_ok-ane.ensures.answer c.ends.ensures.answer
