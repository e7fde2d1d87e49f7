use Rattle.std.proofs.Common.{◌≡◌, ◌+◌, All, length, map}
use Rattle.std.specs.Prelude.{take}
use Rattle.alto_keeper.specs.Stored.{numbered}
use Rattle.batch_code.specs.Spelling.{batch_bytes}
use Rattle.batch_code.specs.Storable.{IsStorable}
use Rattle.alto_desk.proofs.records.read_batches.Given as goal

-- the batches that are there are those of the rows so far
abbrev pub invariant-loop-row : goal.invariant-loop-row
invariant-loop-row l = record {
  spelled : take l.row-index l.rows ≡ numbered (l.b + 1) (map batch_bytes l.batches.items);
  storable : All IsStorable l.batches.items;
  count : length l.batches.items ≡ l.row-index;
}
