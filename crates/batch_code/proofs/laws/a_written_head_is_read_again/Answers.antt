use Rattle.std.proofs.Common.{sym}
use Rattle.batch_code.proofs.OnceLemmas.{head_not_refused, head_once}
use Rattle.batch_code.proofs.laws.a_written_head_is_read_again.Goals as goal

pub returns-clause-read : goal.returns-clause-read
returns-clause-read c epoch read window width is (its, e) = head_once read epoch width window its is (sym e)

pub returns-clause-fault : goal.returns-clause-fault
returns-clause-fault c = head_not_refused
