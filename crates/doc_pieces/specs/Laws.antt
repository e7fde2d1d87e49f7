-- What holds of the pieces of every map: the statements of the laws.
use Rattle.std.specs.Prelude.{◌≡◌, List, false}
use Rattle.std.specs.List.{list_any}
use Rattle.serde_json.specs.Written.{compact_text}
use Rattle.alto_maps.specs.Differ.{DifferAt}
use Rattle.alto_maps.specs.Places.{touches_map}
use Rattle.alto_maps.specs.Shape.{Shape, Face, document}
use Rattle.alto_maps.specs.declared.place.Place.{Place}
use Rattle.doc_pieces.specs.Pieces.{pieces_of, text_of}

-- the text of a document is that of its pieces
abbrev pub PiecesMakeTheDocument : Type 0
PiecesMakeTheDocument = (shape : Shape) (face : Face)
    → compact_text (document shape face) ≡ text_of (pieces_of shape face)

-- maps that differ at places that touch nothing have the same pieces
abbrev pub UntouchedPiecesStay : Type 0
UntouchedPiecesStay = (shape : Shape) (earlier later : Face) (places : List Place) → DifferAt shape places earlier later
    → list_any touches_map places ≡ false → pieces_of shape earlier ≡ pieces_of shape later
