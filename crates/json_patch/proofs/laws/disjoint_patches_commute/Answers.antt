use Rattle.json_patch.proofs.MergeLemmas.{disjoint_commute}
use Rattle.json_patch.proofs.laws.disjoint_patches_commute.Goals as goal

pub returns : goal.returns
returns c = disjoint_commute
