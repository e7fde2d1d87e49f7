-- The law.
use Rattle.batch_check.proofs.RuleLemmas.{kept_rules_are_not_broken}
use Rattle.batch_check.proofs.laws.kept_rules_are_not_broken.Goals as goal

pub returns : goal.returns
returns c = kept_rules_are_not_broken
