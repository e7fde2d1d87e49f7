use Rattle.json_patch.proofs.MergeLemmas.{merge_by_member}
use Rattle.json_patch.proofs.laws.merge_is_by_member.Goals as goal

pub returns : goal.returns
returns c = merge_by_member
