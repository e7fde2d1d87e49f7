-- The law.
use Rattle.batch_check.proofs.RuleLemmas.{one_rule_is_broken_first}
use Rattle.batch_check.proofs.laws.one_rule_is_broken_first.Goals as goal

pub returns : goal.returns
returns c = one_rule_is_broken_first
