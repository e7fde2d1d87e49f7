use Rattle.json_tree.proofs.PointerLemmas.{pointer_text-same}
use Rattle.json_tree.proofs.laws.pointers_are_unambiguous.Goals as goal

pub returns : goal.returns
returns c = pointer_text-same
