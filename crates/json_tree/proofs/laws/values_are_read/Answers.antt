use Rattle.json_tree.proofs.TextLemmas.{value_of_text}
use Rattle.json_tree.proofs.laws.values_are_read.Goals as goal

pub returns : goal.returns
returns c = value_of_text
