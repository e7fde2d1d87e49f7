use Rattle.std.proofs.Common.{◌∙◌}
use Rattle.alto_rules.proofs.NextRunLemmas.{told_by, told_by_none}
use Rattle.alto_rules.proofs.runs.is_first.Goals as goal

pub returns-in-Some : goal.returns-in-Some
returns-in-Some c = λ rows s r. c.is_of.ensures ∙ told_by rows _ _ _ s r c.in-Some.ensures.value

pub returns-in-None : goal.returns-in-None
returns-in-None c = λ rows s r. told_by_none rows _ _ r c.in-None.ensures.value
