-- The texts of documents that a version keeps, in pieces.
use Rattle.std.specs.Prelude.{◌≡◌, Bool, true, false, ℕ, List, Option, Some, None, map, if◌then◌else◌}
use Rattle.std.specs.BTreeMap.{is_at}
use Rattle.std.specs.List.{list_any}
use Rattle.std.specs.Map.{lookup}
use Rattle.alto_rows.specs.declared.key.Key.{Key}
use Rattle.alto_rows.specs.declared.key.Key.TheVariants as key
use Rattle.alto_rows.specs.declared.resource.Resource.{Resource}
use Rattle.alto_rows.specs.declared.write.Write.{Write}
use Rattle.alto_rows.specs.Good.{AreGood}
use Rattle.alto_rows.specs.Order.{resource_cmp}
use Rattle.alto_rows.specs.Rows.{Rows}
use Rattle.alto_rows.specs.Versions.{is_declared, resources_of}
use Rattle.doc_pieces.specs.Pieces.{Pieces, pieces_of}
use Rattle.serde_json.specs.Written.{compact_text}
use Rattle.edge_patch.specs.Documents.{document, face_of, shape_of}

-- a document's text in pieces, under its resource
abbrev pub MapText : Type 0
MapText = Resource × Pieces

-- the pieces of a resource's map
unfoldable pub map_pieces : Rows → Resource → Pieces
map_pieces rows of = pieces_of (shape_of of) (face_of of rows)

-- each declared resource with the pieces of its map, in the order of resources
abbrev pub texts_in : Rows → List MapText
texts_in rows = map (λ of. (of, map_pieces rows of)) (resources_of rows)

-- the pieces of a resource's map among these
abbrev pub text_in : List MapText → Resource → Option Pieces
text_in texts of = lookup (is_at (resource_cmp of)) texts

-- texts are those of good rows
pub record AreTextsOf (rows : Rows) (texts : List MapText) : Type 0 where
  pub good : AreGood rows
  pub whole : texts ≡ texts_in rows

-- pieces are those of the map of a resource that good rows declare
pub record IsTextOf (rows : Rows) (of : Resource) (text : Pieces) : Type 0 where
  pub good : AreGood rows
  pub declared : is_declared rows of ≡ true
  pub whole : text ≡ map_pieces rows of

-- the key of the epoch
abbrev pub is_epoch : Key → Bool
is_epoch key.Epoch = true
is_epoch _ = false

-- one of these writes is of the epoch
abbrev pub writes_epoch : List Write → Bool
writes_epoch writes = list_any (λ write. is_epoch write.key) writes

-- the text of a resource's document, where the resource is declared
abbrev pub declared_text : Rows → Resource → Option (List ℕ)
declared_text rows of = if is_declared rows of then Some (compact_text (document of rows)) else None
