use Rattle.std.proofs.Common.{◌≡◌, map, take}
use Rattle.std.specs.Arc.{arc_value}
use Rattle.alto_desk.proofs.trim.shared.Given as goal

abbrev pub invariant-loop-batch : goal.invariant-loop-batch
invariant-loop-batch l = map arc_value l.shared.items ≡ map arc_value (take l.batch-index l.batches)
