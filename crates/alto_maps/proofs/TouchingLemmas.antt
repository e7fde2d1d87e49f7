-- Places that touch nothing.
use Rattle.std.proofs.Common.{◌≡◌, refl, ap, sym, ◌∙◌}
use Rattle.std.proofs.Math.Path.{fun_ext}
use Rattle.std.specs.Prelude.{Bool, false, cond, List, [], ◌∷◌, ◌++◌, Option, Some, None, filter, map, codes}
use Rattle.std.specs.List.{list_any, cons_option, filter_map, flat_map}
use Rattle.serde_json.specs.Data.{Data}
use Rattle.json_tree.specs.Document.{object_of}
use Rattle.json_patch.specs.Operations.{Operation, replace}
use Rattle.alto_maps.specs.Shape.{Name, Shape, Face, stands, group_object, member_in}
use Rattle.alto_maps.specs.Places.{touches_map, touches_meta, group_of, member_of, set_of, touched_groups}
use Rattle.alto_maps.specs.Places.{touched_members}
use Rattle.alto_maps.specs.MergeForm.{part, nested, change_of, section_change, merge_form}
use Rattle.alto_maps.specs.OperationForm.{under, on_member, by_standing, operation_form}
use Rattle.alto_maps.specs.Laws.{OnlyTouchingPlacesCount, UntouchedIsEmpty}
use Rattle.alto_maps.specs.declared.place.Place.{Place}
use Rattle.alto_maps.specs.declared.place.Place.TheVariants as place

-- what gives nothing at such a place gives the same without them
given_alike : (names : Place → Option Name) → names place.Nowhere ≡ None → (places : List Place)
    → filter_map names (filter touches_map places) ≡ filter_map names places
given_alike names none [] = refl
given_alike names none (place.Nowhere ∷ places) = rw none (given_alike names none places)
given_alike names none (place.Meta ∷ places) = ap (cons_option (names place.Meta)) (given_alike names none places)
given_alike names none (place.Group h ∷ places) =
    ap (cons_option (names (place.Group h))) (given_alike names none places)
given_alike names none (place.Member h n ∷ places) =
    ap (cons_option (names (place.Member h n))) (given_alike names none places)

meta_alike : (places : List Place) → list_any touches_meta (filter touches_map places) ≡ list_any touches_meta places
meta_alike [] = refl
meta_alike (place.Nowhere ∷ places) = meta_alike places
meta_alike (place.Meta ∷ places) = refl
meta_alike (place.Group h ∷ places) = meta_alike places
meta_alike (place.Member h n ∷ places) = meta_alike places

groups_alike : (places : List Place) → touched_groups (filter touches_map places) ≡ touched_groups places
groups_alike places = ap set_of (given_alike group_of refl places)

members_alike : (places : List Place)
    → ◌≡◌ {A = Name → List Name} (λ g. touched_members g (filter touches_map places)) (λ g. touched_members g places)
members_alike places = fun_ext (λ g. ap set_of (given_alike (member_of g) refl places))

-- both forms by what is touched alone
abbrev merge_by : Shape → Face → Bool → List Name → (Name → List Name) → Data
merge_by shape after meta groups members =
    object_of
    (part (codes "meta") (cond meta (Some (nested shape.path after.version)) None)
    ++ part shape.section
    (section_change (map (λ g. (g, change_of after g (members g))) groups)))

abbrev operations_by : Shape → Face → Face → Bool → List Name → (Name → List Name) → List Operation
operations_by shape before after meta groups members =
    cond meta (record { path = codes "meta" ∷ shape.path; action = replace after.version } ∷ []) []
    ++ map (under shape.section)
    (flat_map (λ g. by_standing g (group_object after g)
    (flat_map (λ m. on_member m (member_in before g m) (member_in after g m)) (members g)) (stands before g)
    (stands after g)) groups)

-- what depends on the meta, the groups and the members that are touched doesn't depend on such places
alike : {A : Type 0} (form : Bool → List Name → (Name → List Name) → A) (places : List Place)
    → form (list_any touches_meta (filter touches_map places)) (touched_groups (filter touches_map places))
    (λ g. touched_members g (filter touches_map places))
    ≡ form (list_any touches_meta places) (touched_groups places) (λ g. touched_members g places)
alike form places =
    ap (λ b. form b (touched_groups (filter touches_map places)) (λ g. touched_members g (filter touches_map places)))
    (meta_alike places)
    ∙ (ap (λ gs. form (list_any touches_meta places) gs (λ g. touched_members g (filter touches_map places)))
    (groups_alike places)
    ∙ ap (form (list_any touches_meta places) (touched_groups places)) (members_alike places))

pub only_touching : OnlyTouchingPlacesCount
unfolding merge_form operation_form
only_touching shape before after places =
    (alike (merge_by shape after) places, alike (operations_by shape before after) places)

none_left : (places : List Place) → list_any touches_map places ≡ false → filter touches_map places ≡ []
none_left [] none = refl
none_left (place.Nowhere ∷ places) none = none_left places none
none_left (place.Meta ∷ places) none = cc
none_left (place.Group h ∷ places) none = cc
none_left (place.Member h n ∷ places) none = cc

of_none : (shape : Shape) (before after : Face)
    → (merge_form shape after [] ≡ object_of []) × (operation_form shape before after [] ≡ [])
unfolding merge_form operation_form set_of
of_none shape before after = (refl, refl)

pub untouched_empty : UntouchedIsEmpty
untouched_empty shape before after places none =
    let only = only_touching shape before after places in
    let left = none_left places none in (
      sym only.0 ∙ (ap (merge_form shape after) left ∙ (of_none shape before after).0),
      sym only.1 ∙ (ap (operation_form shape before after) left ∙ (of_none shape before after).1),
    )
