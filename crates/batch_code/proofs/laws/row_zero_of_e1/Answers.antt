use Rattle.std.proofs.Common.{refl}
use Rattle.batch_code.proofs.laws.row_zero_of_e1.Goals as goal

pub returns : goal.returns
returns c = refl
