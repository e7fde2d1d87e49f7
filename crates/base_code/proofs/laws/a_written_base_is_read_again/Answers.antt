use Rattle.std.proofs.Common.{sym}
use Rattle.base_code.proofs.BaseLemmas.{base_once, not_refused}
use Rattle.base_code.proofs.laws.a_written_base_is_read_again.Goals as goal

pub returns-clause-read : goal.returns-clause-read
returns-clause-read c base read is (its, e) = base_once read base its is (sym e)

pub returns-clause-fault : goal.returns-clause-fault
returns-clause-fault c = not_refused
