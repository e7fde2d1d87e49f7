-- The groups of a map from those of another: some are written anew, and all others stay.
use Rattle.std.specs.Prelude.{List, Option, Some, None, if◌then◌else◌, map}
use Rattle.alto_maps.specs.Shape.{Name, Face, stands}
use Rattle.doc_pieces.specs.Pieces.{Piece, piece_of}
use Rattle.shared_list.specs.Changed.{Change, changed}

abbrev pub name_of : Piece → Name
name_of piece = piece.0

-- the piece of a group, where it stands
abbrev pub if_standing : Face → Name → Option Piece
if_standing face g = if stands face g then Some (piece_of face g) else None

-- a group as a map has it
abbrev pub change_of : Face → Name → Change Piece
change_of face g = (g, if_standing face g)

-- groups, of which a map has those of these names
abbrev pub renewed : Face → List Name → List Piece → List Piece
renewed face names groups = changed name_of groups (map (change_of face) names)
