use Rattle.edge_patch.proofs.LawLemmas.{only_touching}
use Rattle.edge_patch.proofs.laws.only_touching_keys_count.Goals as goal

pub returns : goal.returns
returns c = only_touching
