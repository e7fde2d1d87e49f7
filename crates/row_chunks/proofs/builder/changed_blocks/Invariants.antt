use Rattle.std.proofs.Common.{◌≡◌, ◌≤◌, ◌++◌, drop, length}
use Rattle.alto_rows.specs.Changes.{AreOrdered, changed}
use Rattle.row_chunks.specs.Blocks.{joined}
use Rattle.row_chunks.proofs.builder.changed_blocks.Given as goal

-- what is there, and the blocks that are left after the changes that are left, are all
abbrev pub invariant-loop-at : goal.invariant-loop-at
invariant-loop-at g l =
    record {
      whole : l.builder ++ changed (joined (drop l.at l.slots)) (drop l.taken l.changes)
          ≡ l.fn.done ++ changed (joined l.slots) l.fn.changes;
      within : l.taken ≤ length l.changes;
      ordered : AreOrdered (drop l.taken l.changes);
    }
