use Rattle.std.proofs.Common.{◌≡◌, ◌++◌}
use Rattle.alto_rows.specs.Changes.{AreOrdered, changed}
use Rattle.alto_rows.specs.Rows.{AreSorted}
use Rattle.alto_rows.proofs.plain.merged.Given as goal

-- what is there, and the rows that are left after the changes that are left, are all
abbrev pub invariant-loop-key : goal.invariant-loop-key
invariant-loop-key l =
    record {
      whole : l.all.items ++ changed l.rest l.key-iterator ≡ changed l.fn.rows l.fn.changes.entries;
      sorted : AreSorted l.rest;
      ordered : AreOrdered l.key-iterator;
    }
