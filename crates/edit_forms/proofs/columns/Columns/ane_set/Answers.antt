-- Each column with a value is followed by the next, and one without is the fault.
use Rattle.std.proofs.Common.{Err}
use Rattle.std.proofs.lemmas.Result.{err_from_is_err_and}
use Rattle.edit_forms.proofs.AnswerLemmas.{then_fault, then_value}
use Rattle.edit_forms.proofs.columns.Columns.ane_set.Goals as goal

pub returns-in_err-name-clause-answer : goal.returns-in_err-name-clause-answer
returns-in_err-name-clause-answer c =
    let p = err_from_is_err_and c.from_residual-in_err-name.result c.from_residual-in_err-name.ensures.1 in
    rw (p.1, p.2) (then_value _ _ _ c.in_ok-ane.ane (Err c.in_err-name.field-0.0) c.in_ok-ane.ensures.answer
    (then_fault _ _ _ c.in_err-name.field-0.0 c.in_err-name.ensures.answer))

pub returns-in_err-number-clause-answer : goal.returns-in_err-number-clause-answer
returns-in_err-number-clause-answer c =
    let p = err_from_is_err_and c.from_residual-in_err-number.result c.from_residual-in_err-number.ensures.1 in
    rw (p.1, p.2) (then_value _ _ _ c.in_ok-ane.ane (Err c.in_err-number.field-0.0) c.in_ok-ane.ensures.answer
    (then_value _ _ _ c.in_ok-name.name (Err c.in_err-number.field-0.0) c.in_ok-name.ensures.answer
    (then_fault _ _ _ c.in_err-number.field-0.0 c.in_err-number.ensures.answer)))

pub returns-clause-answer : goal.returns-clause-answer
returns-clause-answer c = then_value _ _ _ c.in_ok-ane.ane _ c.in_ok-ane.ensures.answer
    (then_value _ _ _ c.in_ok-name.name _ c.in_ok-name.ensures.answer
    (then_value _ _ _ c.in_ok-number.number _ c.in_ok-number.ensures.answer c.ends.ensures.answer))
