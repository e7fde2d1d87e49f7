use Rattle.std.proofs.Common.{◌∙◌}
use Rattle.std.proofs.lemmas.Result.{IfOk-weaker}
use Rattle.alto_answers.proofs.PidLemmas.{pid_written, null_written}
use Rattle.alto_answers.proofs.lookup.pid_text.Goals as goal

pub returns-in-Some : goal.returns-in-Some
returns-in-Some c =
    rw c.in-Some.is
    (IfOk-weaker c.between.result _ _
    (λ bytes is. is ∙ pid_written _ _ c.as_bytes.ensures.bytes c.as_bytes.ensures.read_again)
    c.between.ensures)

pub returns-in-None : goal.returns-in-None
returns-in-None c =
    rw c.in-None.is (IfOk-weaker c.between-in-None.result _ _ (λ bytes is. is ∙ null_written) c.between-in-None.ensures)
