use Rattle.std.proofs.Common.{◌≡◌, ◌+◌, length, codes, ◌++◌}
use Rattle.std.specs.List.{flat_map}
use Rattle.doc_pieces.specs.Pieces.{Piece, joined}
use Rattle.doc_pieces.proofs.pieces.joined_len.Given as goal

-- what is counted, and the groups that are left, make all groups
abbrev pub invariant-loop-piece : goal.invariant-loop-piece
invariant-loop-piece l =
    l.len + length (flat_map (λ (piece : Piece). codes "," ++ piece.1) l.pieces) ≡ length (joined l.groups)

abbrev pub decreases-loop-piece : goal.decreases-loop-piece
decreases-loop-piece l = length l.pieces
