use Rattle.std.proofs.Common.{arith}
use Rattle.pid_prefix.proofs.IndexLemmas.{none_left}
use Rattle.pid_prefix.proofs.number.U128Number.leading.Goals as goal

pub returns-in-None : goal.returns-in-None
returns-in-None c = none_left c.args.self.now 128 c.args.shift (omega arith) (omega (arith, c.in-None.ensures))
