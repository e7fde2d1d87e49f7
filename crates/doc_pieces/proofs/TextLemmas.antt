-- The text of a document is that of its pieces.
use Rattle.std.proofs.Common.{◌≡◌, refl, ap, sym, ◌∙◌, append_assoc}
use Rattle.std.specs.Prelude.{ℕ, List, [], ◌∷◌, ◌++◌, true, Some, None, cond, codes, map}
use Rattle.std.specs.Cmp.Lexicographic.{slice_cmp}
use Rattle.std.specs.List.{flat_map}
use Rattle.std.specs.Ordering.{nat_cmp, is_gt, is_lt, match_ordering}
use Rattle.std.specs.declared.cmp.Ordering.{Ordering}
use Rattle.std.specs.declared.cmp.Ordering.TheVariants.{Less, Equal, Greater}
use Rattle.json.specs.Print.{print, print_from, quoted}
use Rattle.json.specs.Token.{key}
use Rattle.json.specs.Tree.{json_tokens}
use Rattle.json_tree.proofs.Lookups.{one_name}
use Rattle.json_tree.proofs.OrderLemmas.{same_members}
use Rattle.json_tree.specs.Document.{with_member}
use Rattle.json_tree.specs.Tree.{members_in_order}
use Rattle.serde_json.proofs.Texts.{print-outline}
use Rattle.serde_json.specs.Data.{Data, object, Members, no_members, member}
use Rattle.serde_json.specs.Written.{compact_text, members_text, outline}
use Rattle.alto_maps.proofs.ObjectLemmas.{named, found-named, in_order-named}
use Rattle.alto_maps.proofs.RisingLemmas.{named-rising}
use Rattle.alto_maps.proofs.SetLemmas.{any-set_of, rise-set_of}
use Rattle.alto_maps.specs.Places.{set_of}
use Rattle.alto_maps.specs.Shape.{Name, Face, document, group_object, section_object}
use Rattle.doc_pieces.specs.Pieces.{Piece, member_text, pieces_of, groups_of, joined}
use Rattle.doc_pieces.specs.Laws.{PiecesMakeTheDocument}

-- what a writer prints for a member
pub print_member : (k : Name) (d : Data) → print (key k ∷ json_tokens (outline d)) ≡ member_text k d
unfolding print_from
print_member k d = ap (λ text. quoted k ++ codes ":" ++ text) (print-outline d)

-- ---- an object of named values

-- an object made of names has them once, in byte order
named-set_of : (value : Name → Data) (names : List Name)
    → named value names ≡ members_in_order (map (λ name. (name, value name)) (set_of names))
named-set_of value names =
    same_members _ _ (in_order-named value names) (in_order-named value (set_of names))
    (λ q. found-named value names q ∙ (ap (λ among. cond among (Some (value q)) None) (sym (any-set_of q names))
    ∙ sym (found-named value (set_of names) q)))
    ∙ named-rising value (set_of names) (rise-set_of names)

-- names with their values as pieces
abbrev pieces : (Name → Data) → List Name → List Piece
pieces value names = map {B = Piece} (λ name. (name, member_text name (value name))) names

-- a member before others, and their end
member_more : (name value groups end rest : List ℕ) → rest ≡ groups ++ end
    → name ++ 58 ∷ (value ++ rest) ≡ name ++ codes ":" ++ value ++ groups ++ end
member_more name value groups end rest is = rw is (simp append_assoc refl)

later_text : (value : Name → Data) (names : List Name)
    → members_text true (members_in_order (map (λ name. (name, value name)) names))
    ≡ flat_map (λ (piece : Piece). codes "," ++ piece.1) (pieces value names) ++ codes "}"
later_text value [] = refl
later_text value (name ∷ names) =
    ap (λ text. codes "," ++ text) (member_more (quoted name) (compact_text (value name)) _ (codes "}")
    _ (later_text value names))

object_text : (value : Name → Data) (names : List Name)
    → compact_text (object (members_in_order (map (λ name. (name, value name)) names)))
    ≡ codes "{" ++ joined (pieces value names) ++ codes "}"
object_text value [] = refl
object_text value (name ∷ names) =
    ap (λ text. codes "{" ++ text) (member_more (quoted name) (compact_text (value name)) _ (codes "}")
    _ (later_text value names))

-- the section is its groups between braces
section_text : (face : Face) → compact_text (section_object face) ≡ codes "{" ++ joined (groups_of face) ++ codes "}"
section_text face = ap (λ ms. compact_text (object ms)) (named-set_of (group_object face) face.groups)
    ∙ object_text (group_object face) (set_of face.groups)

-- ---- the document

-- a section before what stands behind it
round_groups : (name groups section tail : List ℕ) → section ≡ codes "{" ++ groups ++ codes "}"
    → name ++ 58 ∷ (section ++ tail) ≡ name ++ codes ":{" ++ groups ++ (codes "}" ++ tail)
round_groups name groups section tail is =
    ap (λ text. name ++ 58 ∷ (text ++ tail)) is
    ∙ (ap (λ text. name ++ 58 ∷ 123 ∷ text) (append_assoc groups (codes "}") tail)
    ∙ sym (append_assoc (name ++ codes ":{") groups (125 ∷ tail)
    ∙ append_assoc name (codes ":{") (groups ++ 125 ∷ tail)))

-- a section and a meta, in either order, or the section alone
section_first : (name groups section meta value : List ℕ) → section ≡ codes "{" ++ groups ++ codes "}"
    → 123 ∷ (name ++ 58 ∷ (section ++ 44 ∷ (meta ++ 58 ∷ (value ++ 125 ∷ []))))
    ≡ codes "{" ++ [] ++ name ++ codes
    ":{" ++ groups ++ (codes "}" ++ (codes "," ++ (meta ++ codes ":" ++ value)) ++ codes "}")
section_first name groups section meta value is =
    let last : meta ++ 58 ∷ (value ++ 125 ∷ []) ≡ meta ++ codes ":" ++ value ++ codes "}" = simp append_assoc refl in
    ap (λ text. 123 ∷ text) (ap (λ text. name ++ 58 ∷ (section ++ 44 ∷ text)) last
    ∙ round_groups name groups section (44 ∷ (meta ++ codes ":" ++ value ++ codes "}")) is)

section_alone : (name groups section : List ℕ) → section ≡ codes "{" ++ groups ++ codes "}"
    → 123 ∷ (name ++ 58 ∷ (section ++ 125 ∷ []))
    ≡ codes "{" ++ [] ++ name ++ codes ":{" ++ groups ++ (codes "}" ++ [] ++ codes "}")
section_alone name groups section is = ap (λ text. 123 ∷ text) (round_groups name groups section (codes "}") is)

meta_first : (name groups section meta value : List ℕ) → section ≡ codes "{" ++ groups ++ codes "}"
    → 123 ∷ (meta ++ 58 ∷ (value ++ 44 ∷ (name ++ 58 ∷ (section ++ 125 ∷ []))))
    ≡ codes "{" ++ (meta ++ codes ":" ++ value ++ codes ",") ++ name
    ++ codes ":{" ++ groups ++ (codes "}" ++ [] ++ codes "}")
meta_first name groups section meta value is = rw is (simp append_assoc refl)

abbrev framed_text : Ordering → Name → List ℕ → List ℕ → List ℕ
framed_text o section meta groups =
    codes "{" ++ cond (is_gt o) (meta ++ codes ",") [] ++ quoted section
    ++ codes ":{" ++ groups ++ (codes "}" ++ cond (is_lt o) (codes "," ++ meta) [] ++ codes "}")

abbrev members_by : Ordering → Name → Data → Data → Members
members_by o k m s = match_ordering o (member k s (member (codes "meta") m no_members))
    (member (codes "meta") s no_members) (member (codes "meta") m (member k s no_members))

by_order : (o : Ordering) (k : Name) (m s : Data) (groups : List ℕ) → slice_cmp nat_cmp k (codes "meta") ≡ o
    → compact_text s ≡ codes "{" ++ groups ++ codes "}"
    → compact_text (object (members_by o k m s)) ≡ framed_text o k (member_text (codes "meta") m) groups
by_order Less k m s groups is text = section_first (quoted k) groups (compact_text s) (quoted (codes "meta"))
    (compact_text m) text
by_order Equal k m s groups is text =
    section_alone (quoted (codes "meta")) groups (compact_text s) text
    ∙ ap (λ name. framed_text Equal name (member_text (codes "meta") m) groups) (sym (one_name k (codes "meta") is))
by_order Greater k m s groups is text = meta_first (quoted k) groups (compact_text s) (quoted (codes "meta"))
    (compact_text m) text

pub document_text : PiecesMakeTheDocument
unfolding document pieces_of with_member
document_text shape face =
    by_order (slice_cmp nat_cmp shape.section (codes "meta")) shape.section face.meta (section_object face)
    (joined (groups_of face)) refl (section_text face)
