-- Groups of a map, of which the touched ones are written anew, are those of the map that differs there.
use Rattle.std.proofs.Common.{◌≡◌, refl, ap, ap₂, sym, ◌∙◌, subst}
use Rattle.std.proofs.lemmas.Map.Text.{is_eq-slice_cmp}
use Rattle.std.specs.BTreeMap.{is_at}
use Rattle.std.specs.List.{filter_map, list_any}
use Rattle.std.specs.List.Sorted.{IsStrictlySortedBy}
use Rattle.std.specs.Map.{keys_of, lookup}
use Rattle.std.specs.Prelude.{Bool, true, false, cond, List, [], ◌∷◌, Some, None, IfSome, map, unwrap_or}
use Rattle.alto_maps.proofs.GroupLemmas.{group_stays}
use Rattle.alto_maps.proofs.PlaceLemmas.{group_touched}
use Rattle.alto_maps.proofs.SetLemmas.{one, Rise, any-set_of, rise-set_of}
use Rattle.alto_maps.specs.Differ.{DifferAt}
use Rattle.alto_maps.specs.Places.{group_of, set_of, touched_groups, touches_group}
use Rattle.alto_maps.specs.Shape.{Name, Shape, Face, group_object, same_name, stands}
use Rattle.alto_maps.specs.declared.place.Place.{Place}
use Rattle.doc_pieces.proofs.PlaceLemmas.{no_groups, no_meta}
use Rattle.doc_pieces.specs.Laws.{UntouchedPiecesStay}
use Rattle.doc_pieces.specs.Pieces.{Piece, Pieces, framed, groups_of, member_text, piece_of, pieces_of}
use Rattle.doc_pieces.specs.Renewed.{change_of, if_standing, name_of, renewed}
use Rattle.shared_list.proofs.ChangedLemmas.{HaveNames, changed_in_order, item_of-changed}
use Rattle.shared_list.proofs.SameLemmas.{same_items}
use Rattle.shared_list.specs.Order.{InOrder, item_of, name_cmp}

abbrev among : Name → List Name → Bool
among q names = list_any (same_name q) names

-- ---- the pieces of groups by name

-- the piece that a group has, where it is one of these
item_of-pieces : (face : Face) (q : Name) (names : List Name)
    → item_of name_of (map (piece_of face) names) q ≡ cond (among q names) (Some (piece_of face q)) None
item_of-pieces face q [] = refl
item_of-pieces face q (n ∷ names) = by (same_name q n) refl (item_of-pieces face q names)
  where
    by : (b : Bool) → same_name q n ≡ b
        → item_of name_of (map (piece_of face) names) q ≡ cond (among q names) (Some (piece_of face q)) None
        → item_of name_of (map (piece_of face) (n ∷ names)) q
        ≡ cond (among q (n ∷ names)) (Some (piece_of face q)) None
    by true e rest =
        let at : is_at (name_cmp q) n ≡ true = is_eq-slice_cmp q n ∙ e in
        rw (at, e) (ap (λ name. Some (piece_of face name)) (sym (one q n e)))
    by false e rest =
        let at : is_at (name_cmp q) n ≡ false = is_eq-slice_cmp q n ∙ e in
        rw (at, e) rest

item_of-groups : (face : Face) (q : Name) → item_of name_of (groups_of face) q ≡ if_standing face q
item_of-groups face q =
    item_of-pieces face q (set_of face.groups)
    ∙ ap (λ b. cond b (Some (piece_of face q)) None) (any-set_of q face.groups)

pub groups_in_order : (face : Face) → InOrder name_of (groups_of face)
groups_in_order face =
    subst (IsStrictlySortedBy name_cmp) (sym (same_names (set_of face.groups))) (rise-set_of face.groups)
  where
    same_names : (names : List Name) → map name_of (map (piece_of face) names) ≡ names
    same_names [] = refl
    same_names (n ∷ names) = ap (λ ns. n ∷ ns) (same_names names)

-- ---- the changes of names

pub keys_of-changes : (face : Face) (names : List Name) → keys_of (map (change_of face) names) ≡ names
keys_of-changes face [] = refl
keys_of-changes face (n ∷ names) = ap (λ ns. n ∷ ns) (keys_of-changes face names)

have_names : (face : Face) (names : List Name) → HaveNames name_of (map (change_of face) names)
have_names face [] = tt
have_names face (n ∷ names) = (by (stands face n), have_names face names)
  where
    by : (b : Bool) → IfSome (cond b (Some (piece_of face n)) None) (λ piece. name_of piece ≡ n)
    by true = refl
    by false = tt

lookup-changes : (face : Face) (q : Name) (names : List Name)
    → lookup (is_at (name_cmp q)) (map (change_of face) names) ≡ cond (among q names) (Some (if_standing face q)) None
lookup-changes face q [] = refl
lookup-changes face q (n ∷ names) = by (same_name q n) refl (lookup-changes face q names)
  where
    by : (b : Bool) → same_name q n ≡ b
        → lookup (is_at (name_cmp q)) (map (change_of face) names)
        ≡ cond (among q names) (Some (if_standing face q)) None
        → lookup (is_at (name_cmp q)) (map (change_of face) (n ∷ names))
        ≡ cond (among q (n ∷ names)) (Some (if_standing face q)) None
    by true e rest =
        let at : is_at (name_cmp q) n ≡ true = is_eq-slice_cmp q n ∙ e in
        rw (at, e) (ap (λ name. Some (if_standing face name)) (sym (one q n e)))
    by false e rest =
        let at : is_at (name_cmp q) n ≡ false = is_eq-slice_cmp q n ∙ e in
        rw (at, e) rest

-- the piece of a group where some are written anew
item_of-renewed : (face : Face) (q : Name) (names : List Name) (groups : List Piece) → Rise names
    → item_of name_of (renewed face names groups) q
    ≡ cond (among q names) (if_standing face q) (item_of name_of groups q)
item_of-renewed face q names groups rise =
    item_of-changed name_of q groups (map (change_of face) names) (have_names face names)
    (rw (keys_of-changes face names) rise)
    ∙ (ap (λ found. unwrap_or found (item_of name_of groups q)) (lookup-changes face q names) ∙ by (among q names))
  where
    by : (b : Bool) → unwrap_or (cond b (Some (if_standing face q)) None) (item_of name_of groups q)
        ≡ cond b (if_standing face q) (item_of name_of groups q)
    by true = refl
    by false = refl

renewed_in_order : (face : Face) (names : List Name) (groups : List Piece) → InOrder name_of groups
    → InOrder name_of (renewed face names groups)
renewed_in_order face names groups s =
    changed_in_order name_of groups (map (change_of face) names) s (have_names face names)

-- ---- the groups of a map

-- those that are all written anew
pub groups_written : (face : Face) → renewed face (set_of face.groups) [] ≡ groups_of face
unfolding IsStrictlySortedBy
groups_written face =
    same_items name_of (renewed face (set_of face.groups) []) (groups_of face)
    (renewed_in_order face (set_of face.groups) [] none_in_order) (groups_in_order face)
    (λ q. item_of-renewed face q (set_of face.groups) [] (rise-set_of face.groups)
    ∙ (ap (λ b. cond b (if_standing face q) None) (any-set_of q face.groups)
    ∙ (by (stands face q) (piece_of face q) ∙ sym (item_of-groups face q))))
  where
    none_in_order : InOrder name_of []
    none_in_order = tt

    by : (b : Bool) (piece : Piece) → cond b (cond b (Some piece) None) None ≡ cond b (Some piece) None
    by true piece = refl
    by false piece = refl

-- a group that isn't touched
piece_stays : (shape : Shape) (earlier after : Face) (places : List Place) (g : Name)
    → DifferAt shape places earlier after → list_any (touches_group g) places ≡ false
    → if_standing earlier g ≡ if_standing after g
piece_stays shape earlier after places g differ none = by (stands earlier g) refl (stands after g) refl
  where
    same : stands earlier g ≡ stands after g
    same = differ.groups g none

    by : (b : Bool) → stands earlier g ≡ b → (d : Bool) → stands after g ≡ d
        → if_standing earlier g ≡ if_standing after g
    by true stood true stood_after =
        let both : Some (group_object earlier g) ≡ Some (group_object after g) =
        rw (stood, stood_after) at (group_stays shape earlier after places g differ none) in
        let one_object : group_object earlier g ≡ group_object after g = cc in
        rw (stood, stood_after) (ap (λ value. Some (g, member_text g value)) one_object)
    by true stood false stood_after = let apart : true ≡ false = sym stood ∙ (same ∙ stood_after) in cc
    by false stood true stood_after = let apart : false ≡ true = sym stood ∙ (same ∙ stood_after) in cc
    by false stood false stood_after = rw (stood, stood_after) refl

groups_renewed : (shape : Shape) (earlier after : Face) (places : List Place) → DifferAt shape places earlier after
    → renewed after (touched_groups places) (groups_of earlier) ≡ groups_of after
groups_renewed shape earlier after places differ =
    same_items name_of (renewed after touched (groups_of earlier)) (groups_of after)
    (renewed_in_order after touched (groups_of earlier) (groups_in_order earlier)) (groups_in_order after)
    (λ q. item_of-renewed after q touched (groups_of earlier) (rise-set_of (filter_map group_of places))
    ∙ (ap₂ (λ b own. cond b (if_standing after q) own) (group_touched q places) (item_of-groups earlier q)
    ∙ (by q (list_any (touches_group q) places) refl ∙ sym (item_of-groups after q))))
  where
    touched : List Name
    touched = touched_groups places

    by : (q : Name) (b : Bool) → list_any (touches_group q) places ≡ b
        → cond b (if_standing after q) (if_standing earlier q) ≡ if_standing after q
    by q true e = refl
    by q false e = piece_stays shape earlier after places q differ e

-- so the pieces of a map become those of one that differs at places
pub pieces_renewed : (shape : Shape) (earlier after : Face) (places : List Place) (held : Pieces) (old new : List Piece)
    → held ≡ pieces_of shape earlier → DifferAt shape places earlier after
    → old ≡ held.groups → new ≡ renewed after (touched_groups places) old
    → framed shape after.meta new ≡ pieces_of shape after
unfolding pieces_of
pieces_renewed shape earlier after places held old new had differ was is =
    ap (framed shape after.meta)
    (is ∙ (ap (renewed after (touched_groups places)) (was ∙ ap (λ (pieces : Pieces). pieces.groups) had)
    ∙ groups_renewed shape earlier after places differ))

-- and stay, where no place touches anything
pub pieces_stay : UntouchedPiecesStay
unfolding pieces_of
pieces_stay shape earlier later places differ none =
    let groups : groups_of earlier ≡ groups_of later =
    ap (λ names. renewed later names (groups_of earlier)) (sym (no_groups places none))
    ∙ groups_renewed shape earlier later places differ in
    ap₂ (framed shape) (differ.meta (no_meta places none)) groups
