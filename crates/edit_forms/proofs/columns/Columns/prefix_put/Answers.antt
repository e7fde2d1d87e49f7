-- Each column with a value is followed by the next, and one without is the fault.
use Rattle.std.proofs.Common.{Err}
use Rattle.std.proofs.lemmas.Result.{err_from_is_err_and}
use Rattle.edit_forms.proofs.AnswerLemmas.{then_fault, then_value}
use Rattle.edit_forms.proofs.columns.Columns.prefix_put.Goals as goal

pub returns-in_err-prefix-clause-answer : goal.returns-in_err-prefix-clause-answer
returns-in_err-prefix-clause-answer c =
    let p = err_from_is_err_and c.from_residual-in_err-prefix.result c.from_residual-in_err-prefix.ensures.1 in
    rw (p.1, p.2) (then_value _ _ _ c.in_ok-pid.pid (Err c.in_err-prefix.field-0.0) c.in_ok-pid.ensures.answer
    (then_fault _ _ _ c.in_err-prefix.field-0.0 c.in_err-prefix.ensures.answer))

pub returns-clause-answer : goal.returns-clause-answer
returns-clause-answer c = then_value _ _ _ c.in_ok-pid.pid _ c.in_ok-pid.ensures.answer
    (then_value _ _ _ c.in_ok-prefix.prefix _ c.in_ok-prefix.ensures.answer c.ends.ensures.answer)
