use Rattle.std.proofs.Common.{◌≡◌, ◌++◌, codes, length}
use Rattle.std.specs.List.{flat_map}
use Rattle.doc_pieces.specs.Pieces.{Piece, joined}
use Rattle.doc_pieces.proofs.pieces.join.Given as goal

-- what is there, and the groups that are left, make all groups
abbrev pub invariant-loop-piece : goal.invariant-loop-piece
invariant-loop-piece l =
    l.text.items ++ flat_map (λ (piece : Piece). codes "," ++ piece.1) l.pieces ≡ l.fn.text.items ++ joined l.groups

abbrev pub decreases-loop-piece : goal.decreases-loop-piece
decreases-loop-piece l = length l.pieces
