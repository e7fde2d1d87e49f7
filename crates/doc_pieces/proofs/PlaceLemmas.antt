-- The groups that places touch, place by place.
use Rattle.std.proofs.Common.{◌≡◌, Bor, refl, ap, ◌∙◌, sym}
use Rattle.std.proofs.Math.Bool.{or-false}
use Rattle.std.proofs.lemmas.Bool.{or_right}
use Rattle.std.proofs.lemmas.List.{append-nil}
use Rattle.std.proofs.lemmas.List.Elements.{filter_map-append}
use Rattle.std.proofs.lemmas.List.Folds.{list_any-append}
use Rattle.std.proofs.lemmas.Map.Text.{is_eq-slice_cmp}
use Rattle.std.specs.BTreeMap.{is_at}
use Rattle.std.specs.BTreeSet.{insert_key}
use Rattle.std.specs.Cmp.Lexicographic.{slice_cmp}
use Rattle.std.specs.List.{filter_map, list_any}
use Rattle.std.specs.Option.{option_eq}
use Rattle.std.specs.Ordering.{nat_cmp}
use Rattle.std.specs.Prelude.{Bool, List, true, false, ◌||◌, [], ◌∷◌, ◌++◌, IsTrue, IfSome, Option, Some, None}
use Rattle.alto_maps.proofs.SetLemmas.{any-set_of, one, rise-set_of, set_of-push}
use Rattle.alto_maps.specs.Places.{group_of, set_of, touched_groups, touches_map, touches_meta}
use Rattle.alto_maps.specs.Shape.{Name, same_name}
use Rattle.alto_maps.specs.declared.place.Place.{Place}
use Rattle.alto_maps.specs.declared.place.Place.TheVariants as place
use Rattle.doc_pieces.proofs.NameLemmas.{same_names}

pub none_touched : touched_groups [] ≡ []
unfolding set_of
none_touched = refl

-- a place in no group
pub touched_same : (places : List Place) (at : Place) → group_of at ≡ None
    → touched_groups places ≡ touched_groups (places ++ at ∷ [])
touched_same places at none =
    ap set_of (sym (append-nil (filter_map group_of places))
    ∙ sym (filter_map-append group_of places (at ∷ []) ∙ rw none refl))

-- a place in a group
pub touched_more : (places : List Place) (at : Place) (name : Name) (old new : List Name) → old ≡ touched_groups places
    → group_of at ≡ Some name
    → new ≡ insert_key (slice_cmp nat_cmp) old name → new ≡ touched_groups (places ++ at ∷ [])
touched_more places at name old new so_far is put =
    put
    ∙ (ap (λ names. insert_key (slice_cmp nat_cmp) names name) so_far
    ∙ sym (ap set_of (filter_map-append group_of places (at ∷ []) ∙ rw is refl)
    ∙ set_of-push (filter_map group_of places) name))

-- a place in a group that is there already
pub touched_kept : (places : List Place) (at : Place) (name : Name) (old : List Name) → old ≡ touched_groups places
    → group_of at ≡ Some name
    → list_any (is_at (slice_cmp nat_cmp name)) old ≡ true → old ≡ touched_groups (places ++ at ∷ [])
touched_kept places at name old so_far is there =
    let one_set : set_of groups ≡ set_of more = same_names _ _ (rise-set_of groups) (rise-set_of more) (λ q.
    any-set_of q groups ∙ (none_more q ∙ sym (any-set_of q more))) in
    so_far ∙ (one_set ∙ sym (ap set_of (filter_map-append group_of places (at ∷ []) ∙ rw is refl)))
  where
    groups : List Name
    groups = filter_map group_of places

    more : List Name
    more = groups ++ name ∷ []

    among : list_any (same_name name) groups ≡ true
    among =
        sym (any-set_of name groups)
        ∙ (ap (list_any (same_name name)) (sym so_far)
        ∙ (ap (λ test. list_any test old) (λ i at. sym (is_eq-slice_cmp name at) i) ∙ there))

    by : (q : Name) (b : Bool) → same_name q name ≡ b
        → list_any (same_name q) groups ≡ (list_any (same_name q) groups || (b || false))
    by q true same =
        rw (one q name same) (among ∙ sym (or_right (list_any (same_name name) groups) true refl))
    by q false same = sym (or-false (list_any (same_name q) groups))

    none_more : (q : Name) → list_any (same_name q) groups ≡ list_any (same_name q) more
    none_more q =
        by q (same_name q name) refl ∙ sym (list_any-append (same_name q) groups (name ∷ []))

-- the last of a set is in it
pub last_among : (names : List Name) (last : Option (Bor Name)) (name : Bor Name)
    → option_eq (λ a b. same_name a.now b.now) last (Some name) ≡ true
    → IfSome last (λ at. IsTrue (list_any (is_at (slice_cmp nat_cmp at.now)) names))
    → list_any (is_at (slice_cmp nat_cmp name.now)) names ≡ true
last_among names None name same there = cc
last_among names (Some at) name same there =
    let is : at.now ≡ name.now = one at.now name.now same in
    rw (← is) there

-- ---- places that touch nothing

none_given : (places : List Place) → list_any touches_map places ≡ false → filter_map group_of places ≡ []
none_given [] none = refl
none_given (place.Nowhere ∷ places) none = none_given places none
none_given (place.Meta ∷ places) none = cc
none_given (place.Group h ∷ places) none = cc
none_given (place.Member h n ∷ places) none = cc

pub no_groups : (places : List Place) → list_any touches_map places ≡ false → touched_groups places ≡ []
no_groups places none = ap set_of (none_given places none) ∙ none_touched

pub no_meta : (places : List Place) → list_any touches_map places ≡ false → list_any touches_meta places ≡ false
no_meta [] none = refl
no_meta (place.Nowhere ∷ places) none = no_meta places none
no_meta (place.Meta ∷ places) none = cc
no_meta (place.Group h ∷ places) none = cc
no_meta (place.Member h n ∷ places) none = cc
