use Rattle.std.proofs.Common.{refl}
use Rattle.json_patch.specs.Operations.{operations_applied}
use Rattle.json_patch.proofs.operations.applying.apply.Goals as goal

pub loop-k-init : goal.loop-k-init
unfolding operations_applied
loop-k-init c = refl
