-- The text of a map's document in pieces (RFC 8259, with no space): each group as a member, and what stands round them.
use Rattle.std.specs.Prelude.{ℕ, List, [], ◌++◌, map, codes, if◌then◌else◌}
use Rattle.std.specs.Cmp.Lexicographic.{slice_cmp}
use Rattle.std.specs.List.{join_by}
use Rattle.std.specs.Ordering.{nat_cmp, is_gt, is_lt}
use Rattle.json.specs.Print.{quoted}
use Rattle.serde_json.specs.Data.{Data}
use Rattle.serde_json.specs.Written.{compact_text}
use Rattle.alto_maps.specs.Places.{set_of}
use Rattle.alto_maps.specs.Shape.{Name, Shape, Face, group_object}

-- a member of an object: its name and its value
abbrev pub member_text : Name → Data → List ℕ
member_text name value = quoted name ++ codes ":" ++ compact_text value

-- a group's name, and its text as a member
abbrev pub Piece : Type 0
Piece = Name × List ℕ

-- the piece of a group
abbrev pub piece_of : Face → Name → Piece
piece_of face g = (g, member_text g (group_object face g))

-- the groups of a map, in byte order
abbrev pub groups_of : Face → List Piece
groups_of face = map (piece_of face) (set_of face.groups)

-- what stands before the groups, where the meta is this member: that too, where it comes first
abbrev pub beginning : Name → List ℕ → List ℕ
beginning section meta =
    codes "{" ++ (if is_gt (slice_cmp nat_cmp section (codes "meta")) then meta ++ codes "," else [])
    ++ quoted section ++ codes ":{"

-- what stands behind the groups: the meta too, where it comes last
abbrev pub ending : Name → List ℕ → List ℕ
ending section meta =
    codes "}" ++ (if is_lt (slice_cmp nat_cmp section (codes "meta")) then codes "," ++ meta else []) ++ codes "}"

-- the pieces of a document
pub record Pieces : Type 0 where
  pub beginning : List ℕ
  pub groups : List Piece
  pub ending : List ℕ

-- the pieces of a map with this meta and these groups
abbrev pub framed : Shape → Data → List Piece → Pieces
framed shape meta groups = record {
  beginning = beginning shape.section (member_text (codes "meta") meta);
  groups = groups;
  ending = ending shape.section (member_text (codes "meta") meta);
}

-- the pieces of a map
unfoldable pub pieces_of : Shape → Face → Pieces
pieces_of shape face = framed shape face.meta (groups_of face)

-- groups with a comma between each two
abbrev pub joined : List Piece → List ℕ
joined groups = join_by (λ (group : Piece). group.1) (codes ",") groups

-- the text that pieces make
abbrev pub text_of : Pieces → List ℕ
text_of pieces = pieces.beginning ++ joined pieces.groups ++ pieces.ending
