use Rattle.std.proofs.Common.{◌≡◌, ◌++◌, drop}
use Rattle.alto_rows.specs.Changes.{AreOrdered, changed}
use Rattle.alto_rows.specs.Rows.{AreSorted}
use Rattle.row_chunks.proofs.merge.with_changed.Given as goal

-- what is there, and the rows that are left after the changes that are left, are all
abbrev pub invariant-loop-change : goal.invariant-loop-change
invariant-loop-change l =
    record {
      whole : l.all.items ++ changed l.rest (drop l.change-index l.changes)
          ≡ l.fn.done.items ++ changed l.fn.rows l.fn.changes;
      sorted : AreSorted l.rest;
      ordered : AreOrdered (drop l.change-index l.changes);
    }
