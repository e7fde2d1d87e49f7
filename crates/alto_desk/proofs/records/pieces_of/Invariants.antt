-- The rows are those of the pieces so far, and those that are left.
use Rattle.std.proofs.Common.{◌≡◌, ◌++◌, map}
use Rattle.std.specs.Prelude.{vec_items}
use Rattle.alto_keeper.specs.Stored.{numbered}
use Rattle.alto_desk.proofs.records.pieces_of.Given as goal

abbrev pub invariant-loop-row : goal.invariant-loop-row
invariant-loop-row l = l.fn.rows.items ≡ numbered 0 (map vec_items l.pieces.items) ++ l.row-iterator.rest.items
