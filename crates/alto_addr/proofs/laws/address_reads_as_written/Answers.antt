use Rattle.alto_addr.proofs.Written.{reads_as_written}
use Rattle.alto_addr.proofs.laws.address_reads_as_written.Goals as goal

pub returns : goal.returns
returns c = reads_as_written
