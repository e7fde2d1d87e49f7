use Rattle.alto_addr.proofs.Unique.{one_prefix}
use Rattle.alto_addr.proofs.laws.text_writes_one_prefix.Goals as goal

pub returns : goal.returns
returns c = one_prefix
