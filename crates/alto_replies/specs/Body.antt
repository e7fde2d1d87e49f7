-- The bytes of a reply's body.
use Rattle.std.specs.Prelude.{ℕ, List}
use Rattle.std.specs.Arc.{arc_value}
use Rattle.doc_pieces.specs.Pieces.{text_of}
use Rattle.alto_replies.specs.declared.body.Source.{Source}
use Rattle.alto_replies.specs.declared.body.Source.TheVariants as source

-- its own, or those of a map's text
abbrev pub bytes_in : Source → List ℕ
bytes_in (source.Bytes bytes) = bytes.items
bytes_in (source.Map pieces) = text_of (arc_value pieces)
