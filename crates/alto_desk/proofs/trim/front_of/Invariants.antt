-- The course of the book with the batches so far.
use Rattle.std.proofs.Common.{map, take}
use Rattle.std.specs.Arc.{arc_value}
use Rattle.alto_versions.specs.Course.{Follows}
use Rattle.alto_desk.specs.Ledger.{book_kept}
use Rattle.alto_desk.proofs.trim.front_of.Given as goal

abbrev pub invariant-loop-batch : goal.invariant-loop-batch
invariant-loop-batch g l =
    Follows l.course (book_kept (g.R.RowStore.rows (arc_value l.base))
    l.receipts (map arc_value (take l.batch-index l.batches)))
