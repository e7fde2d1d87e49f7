use Rattle.alto_http.proofs.Refusals.{refusal_is_by_a_check}
use Rattle.alto_http.proofs.laws.refusal_is_by_a_check.Goals as goal

pub returns : goal.returns
returns c = refusal_is_by_a_check
