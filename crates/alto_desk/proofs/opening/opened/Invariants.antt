use Rattle.std.proofs.Common.{◌≡◌, ◌++◌}
use Rattle.alto_desk.specs.Records.{book_from}
use Rattle.alto_desk.proofs.opening.opened.Given as goal

-- the book that was read and the batches that are left are all
abbrev pub invariant-loop-batch : goal.invariant-loop-batch
invariant-loop-batch g l = record {
  parts : l.opening.batches ++ l.batch-iterator.rest.items ≡ l.fn.records.batches.items;
  began : l.opening ≡ book_from l.fn.records.epoch l.fn.records.window l.fn.records.base l.opening.batches;
}
