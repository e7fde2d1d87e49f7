use Rattle.alto_addr.proofs.Written.{one_address}
use Rattle.alto_addr.proofs.laws.text_writes_one_address.Goals as goal

pub returns : goal.returns
returns c = one_address
