-- The operation is followed by its network, and this by the other columns.
use Rattle.std.proofs.Common.{◌∙◌, Err, sym}
use Rattle.std.proofs.lemmas.Result.{err_from_is_err_and}
use Rattle.edit_forms.proofs.AnswerLemmas.{then_fault, then_value}
use Rattle.edit_forms.proofs.columns.Columns.edit.Goals as goal

pub returns-in_err-net-clause-answer : goal.returns-in_err-net-clause-answer
returns-in_err-net-clause-answer c =
    let p = err_from_is_err_and c.from_residual.result c.from_residual.ensures.1 in
    rw (p.1, p.2) (then_value _ _ _ c.in-Some.operation (Err c.in_err-net.field-0.0) (sym c.read.ensures ∙ c.in-Some.is)
    (then_fault _ _ _ c.in_err-net.field-0.0 c.in_err-net.ensures.answer))

pub returns-clause-answer : goal.returns-clause-answer
returns-clause-answer c =
    then_value _ _ _ c.in-Some.operation _ (sym c.read.ensures ∙ c.in-Some.is)
    (then_value _ _ _ c.in_ok-net.net _ c.in_ok-net.ensures.answer c.edit_of.ensures.answer)
