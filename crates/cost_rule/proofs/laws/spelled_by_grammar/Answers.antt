use Rattle.cost_rule.proofs.Complete.{read-spelled}
use Rattle.cost_rule.proofs.Sound.{spelled-read}
use Rattle.cost_rule.proofs.laws.spelled_by_grammar.Goals as goal

pub returns : goal.returns
returns c text constraint = (spelled-read text constraint, read-spelled text constraint)
