use Rattle.code_bytes.proofs.FixedLemmas.{fixed_short}
use Rattle.code_bytes.proofs.fixed.read_fixed.Goals as goal

pub returns-then-bytes-count-clause-stops : goal.returns-then-bytes-count-clause-stops
returns-then-bytes-count-clause-stops c = fixed_short c.args.count c.args.bytes.now c.if-bytes-count.true
