-- The receipts of the base and those of the batches so far.
use Rattle.std.proofs.Common.{◌≡◌, ◌++◌, map, take}
use Rattle.std.specs.Arc.{arc_value}
use Rattle.alto_book.specs.Book.{kept_of}
use Rattle.alto_desk.specs.Ledger.{receipt_of}
use Rattle.alto_desk.proofs.next_base.receipts_after.Given as goal

abbrev pub invariant-loop-batch : goal.invariant-loop-batch
invariant-loop-batch l =
    map receipt_of l.all.items ≡ map receipt_of l.receipts ++ map kept_of (map arc_value (take l.batch-index l.batches))
