use Rattle.std.proofs.Common.{◌≡◌, ◌+◌, ◌*◌, ◌≤◌, ◌++◌, length}
use Rattle.row_chunks.specs.Blocks.{AllBegin, joined}
use Rattle.row_chunks.proofs.blocks.Blocks.of_slots.Given as goal

-- what is there, and what is left, are all; for what is left there is room
abbrev pub invariant-loop-slot : goal.invariant-loop-slot
invariant-loop-slot g l =
    record {
      whole : l.blocks ++ joined l.slot-iterator.rest.items ≡ joined l.fn.slots.items;
      room : length l.blocks + length l.slot-iterator.rest.items * g.B.Block.most ≤ length l.fn.slots.items
          * g.B.Block.most;
      begin : AllBegin l.slot-iterator.rest.items;
    }
