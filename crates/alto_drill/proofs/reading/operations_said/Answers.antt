use Rattle.alto_drill.proofs.ReadLemmas.{no_fault, said_once}
use Rattle.alto_drill.proofs.reading.operations_said.Goals as goal

pub returns-in-Ok : goal.returns-in-Ok
returns-in-Ok c = λ changes is. said_once _ changes _ is c.in-Ok.ensures.ok

pub unreachable-requires : goal.unreachable-requires
unreachable-requires c = no_fault _ c.requires.0 _ _ c.requires.1 c.in-Err-BadOp.field-0-is c.in-Err-BadOp.ensures.err
