use Rattle.endpoint_costs.proofs.OnceLemmas.{asks_once}
use Rattle.endpoint_costs.proofs.laws.body_asks_once.Goals as goal

pub returns : goal.returns
returns c = asks_once
