use Rattle.std.proofs.Common.{sym}
use Rattle.batch_code.proofs.OnceLemmas.{batch_once, not_refused}
use Rattle.batch_code.proofs.laws.a_written_batch_is_read_again.Goals as goal

pub returns-clause-read : goal.returns-clause-read
returns-clause-read c batch read is (its, e) = batch_once read batch its is (sym e)

pub returns-clause-fault : goal.returns-clause-fault
returns-clause-fault c = not_refused
