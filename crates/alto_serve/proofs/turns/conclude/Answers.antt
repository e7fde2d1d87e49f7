use Rattle.std.proofs.Common.{◌≡◌}
use Rattle.alto_answers.specs.declared.outcome.Answer.TheVariants as answer
use Rattle.alto_serve.proofs.TurnLemmas.{hold_lost, import_lost, on_err_anyhow, reply_lost}
use Rattle.alto_serve.proofs.turns.conclude.Goals as goal

pub returns-in-Hold-clause-err : goal.returns-in-Hold-clause-err
returns-in-Hold-clause-err g c =
    let is : answer.Hold c.in-Hold.resource c.in-Hold.i c.in-Hold.j ≡ c.args.answer = cc in
    on_err_anyhow _ (hold_lost _ _ _ _ _ _ _ is)

pub returns-in_err-outcome-in-Edit-clause-err : goal.returns-in_err-outcome-in-Edit-clause-err
returns-in_err-outcome-in-Edit-clause-err g c =
    let is : answer.Edit c.in-Edit.command ≡ c.args.answer = cc in
    let lost = c.in_err-outcome-in-Edit.ensures.lost in
    on_err_anyhow _ (import_lost _ _ _ _ _ _ lost.0 is lost.1 lost.2)

-- the import had its effect, though memory ran out for the reply
pub returns-clause-err : goal.returns-clause-err
returns-clause-err g c =
    let is : answer.Edit c.in-Edit.command ≡ c.args.answer = cc in
    let told = c.in_ok-outcome-in-Edit.ensures.decided in
    on_err_anyhow _ (reply_lost _ _ _ _ _ _ told.0 is told.1 _ told.2)
