use Rattle.std.proofs.Common.{refl}
use Rattle.batch_code.proofs.laws.row_of_i1.Goals as goal

pub returns : goal.returns
returns c digest = refl
