use Rattle.std.proofs.Common.{◌≡◌, ◌≤◌, ◌++◌, length}
use Rattle.std.specs.List.{AllByRecursion, flat_map}
use Rattle.row_chunks.proofs.pieces.cut.Given as goal

-- what is in pieces, in the piece at hand and left are all
abbrev pub invariant-loop-item : goal.invariant-loop-item
invariant-loop-item g l =
    record {
      whole : (flat_map (λ piece. piece.items) l.all.items ++ l.piece.items) ++ l.item-iterator.rest.items
          ≡ l.fn.items.items;
      within : length l.piece.items ≤ l.size;
      small : AllByRecursion (λ piece. length piece.items ≤ l.size) l.all.items;
    }
