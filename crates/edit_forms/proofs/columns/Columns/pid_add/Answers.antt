-- The column with a value is followed by the empty ones.
use Rattle.edit_forms.proofs.AnswerLemmas.{then_value}
use Rattle.edit_forms.proofs.columns.Columns.pid_add.Goals as goal

pub returns-clause-answer : goal.returns-clause-answer
returns-clause-answer c = then_value _ _ _ c.in_ok-pid.pid _ c.in_ok-pid.ensures.answer c.ends.ensures.answer
