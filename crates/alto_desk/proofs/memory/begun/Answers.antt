use Rattle.std.proofs.Common.{refl}
use Rattle.alto_desk.proofs.memory.begun.Goals as goal

pub returns-in-Ok : goal.returns-in-Ok
returns-in-Ok c = (c.in-Ok.ensures.done tt c.new-keeper.result.stored refl).1
