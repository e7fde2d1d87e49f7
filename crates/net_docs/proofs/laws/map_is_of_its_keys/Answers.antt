use Rattle.net_docs.proofs.KeysLemmas.{same_map}
use Rattle.net_docs.proofs.laws.map_is_of_its_keys.Goals as goal

pub returns : goal.returns
returns c = same_map
