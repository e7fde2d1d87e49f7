use Rattle.json_tree.proofs.OrderLemmas.{same_members}
use Rattle.json_patch.proofs.laws.same_values_same_members.Goals as goal

pub returns : goal.returns
returns c = same_members
