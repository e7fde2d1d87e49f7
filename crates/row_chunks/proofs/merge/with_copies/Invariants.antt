use Rattle.std.proofs.Common.{◌≡◌, ◌++◌, take}
use Rattle.row_chunks.proofs.merge.with_copies.Given as goal

abbrev pub invariant-loop-row : goal.invariant-loop-row
invariant-loop-row l = l.all.items ≡ l.fn.done.items ++ take l.row-index l.rows
