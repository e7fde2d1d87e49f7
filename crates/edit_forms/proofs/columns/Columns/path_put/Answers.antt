-- Each column with a value is followed by the next, and one without is the fault.
use Rattle.std.proofs.Common.{Err}
use Rattle.std.proofs.lemmas.Result.{err_from_is_err_and}
use Rattle.edit_forms.proofs.AnswerLemmas.{then_fault, then_value}
use Rattle.edit_forms.proofs.columns.Columns.path_put.Goals as goal

pub returns-in_err-destination-clause-answer : goal.returns-in_err-destination-clause-answer
returns-in_err-destination-clause-answer c =
    let p = err_from_is_err_and c.from_residual-in_err-destination.result
    c.from_residual-in_err-destination.ensures.1 in
    rw (p.1, p.2) (then_value _ _ _ c.in_ok-source.source (Err c.in_err-destination.field-0.0)
    c.in_ok-source.ensures.answer (then_fault _ _ _ c.in_err-destination.field-0.0
    c.in_err-destination.ensures.answer))

pub returns-in_err-anes-clause-answer : goal.returns-in_err-anes-clause-answer
returns-in_err-anes-clause-answer c =
    let p = err_from_is_err_and c.from_residual-in_err-anes.result c.from_residual-in_err-anes.ensures.1 in
    rw (p.1, p.2) (then_value _ _ _ c.in_ok-source.source (Err c.in_err-anes.field-0.0) c.in_ok-source.ensures.answer
    (then_value _ _ _ c.in_ok-destination.destination (Err c.in_err-anes.field-0.0)
    c.in_ok-destination.ensures.answer (then_fault _ _ _ c.in_err-anes.field-0.0 c.in_err-anes.ensures.answer)))

pub returns-clause-answer : goal.returns-clause-answer
returns-clause-answer c = then_value _ _ _ c.in_ok-source.source _ c.in_ok-source.ensures.answer
    (then_value _ _ _ c.in_ok-destination.destination _ c.in_ok-destination.ensures.answer
    (then_value _ _ _ c.in_ok-anes.anes _ c.in_ok-anes.ensures.answer c.ends.ensures.answer))
