-- The rows after the batches so far.
use Rattle.std.proofs.Common.{◌≡◌, map, take}
use Rattle.std.specs.Arc.{arc_value}
use Rattle.alto_rows.specs.Rows.{after}
use Rattle.alto_book.specs.Book.{writes_in}
use Rattle.alto_desk.proofs.next_base.rows_after.Given as goal

abbrev pub invariant-loop-batch : goal.invariant-loop-batch
invariant-loop-batch g l =
    g.R.RowStore.rows l.rows ≡ after (g.R.RowStore.rows l.base)
    (writes_in (map arc_value (take l.batch-index l.batches)))
