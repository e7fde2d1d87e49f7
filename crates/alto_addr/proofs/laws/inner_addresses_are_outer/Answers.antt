use Rattle.alto_addr.proofs.Insides.{held_too}
use Rattle.alto_addr.proofs.laws.inner_addresses_are_outer.Goals as goal

pub returns : goal.returns
returns c = held_too
