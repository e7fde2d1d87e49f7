use Rattle.alto_maps.proofs.MergeLemmas.{merge_leads_on}
use Rattle.alto_maps.proofs.laws.merge_leads_on.Goals as goal

pub returns : goal.returns
returns c = merge_leads_on
