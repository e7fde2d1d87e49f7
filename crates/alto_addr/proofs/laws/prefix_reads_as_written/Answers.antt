use Rattle.alto_addr.proofs.Written.{prefix_as_written}
use Rattle.alto_addr.proofs.laws.prefix_reads_as_written.Goals as goal

pub returns : goal.returns
returns c = prefix_as_written
