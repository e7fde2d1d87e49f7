use Rattle.json_patch.proofs.MergeLemmas.{order_stays}
use Rattle.json_patch.proofs.laws.order_stays.Goals as goal

pub returns : goal.returns
returns c = order_stays
