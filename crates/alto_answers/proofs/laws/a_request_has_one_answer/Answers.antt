use Rattle.alto_answers.proofs.UniqueLemmas.{answers_once}
use Rattle.alto_answers.proofs.laws.a_request_has_one_answer.Goals as goal

pub returns : goal.returns
returns c = answers_once
