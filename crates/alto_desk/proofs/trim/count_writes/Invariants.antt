use Rattle.std.proofs.Common.{◌≡◌, length, map, take}
use Rattle.std.specs.Arc.{arc_value}
use Rattle.alto_book.specs.Book.{writes_in}
use Rattle.alto_desk.proofs.trim.count_writes.Given as goal

abbrev pub invariant-loop-batch : goal.invariant-loop-batch
invariant-loop-batch l = l.count ≡ length (writes_in (map arc_value (take l.batch-index l.batches)))
