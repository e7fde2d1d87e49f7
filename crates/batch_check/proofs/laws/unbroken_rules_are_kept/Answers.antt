-- The law.
use Rattle.batch_check.proofs.StableLemmas.{unbroken_rules_are_kept}
use Rattle.batch_check.proofs.laws.unbroken_rules_are_kept.Goals as goal

pub returns : goal.returns
returns c = unbroken_rules_are_kept
