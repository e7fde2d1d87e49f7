use Rattle.edge_patch.proofs.LawLemmas.{untouched}
use Rattle.edge_patch.proofs.laws.untouched_is_empty.Goals as goal

pub returns : goal.returns
returns c = untouched
