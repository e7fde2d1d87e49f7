-- Which keys count in the forms of an edge.
use Rattle.std.proofs.Common.{◌≡◌, refl, ap, sym, ◌∙◌}
use Rattle.std.specs.Prelude.{Bool, true, false, List, [], ◌∷◌, filter, map}
use Rattle.std.specs.List.{list_any}
use Rattle.alto_rows.specs.declared.key.Key.{Key}
use Rattle.alto_rows.specs.declared.resource.Resource.{Resource}
use Rattle.alto_rows.specs.Touches.{touches}
use Rattle.alto_maps.specs.MergeForm as merge
use Rattle.alto_maps.specs.OperationForm as operation
use Rattle.alto_maps.specs.Places.{touches_map}
use Rattle.alto_maps.specs.declared.place.Place.{Place}
use Rattle.alto_maps.proofs.TouchingLemmas as maps
use Rattle.edge_patch.specs.Documents.{face_of, place_of, shape_of}
use Rattle.edge_patch.specs.Laws.{OnlyTouchingKeysCount, UntouchedIsEmpty}
use Rattle.edge_patch.proofs.KindLemmas.{nowhere}

-- keys that don't touch a resource touch no place of its map, so the others touch the same places
touching_places : (of : Resource) (keys : List Key)
    → filter touches_map (map (place_of of) keys) ≡ filter touches_map (map (place_of of) (filter (touches of) keys))
touching_places of [] = refl
touching_places of (first ∷ keys) =
    by (touching_places of keys) (touches of first) (touches_map (place_of of first)) refl refl
  where
    by : filter touches_map (map (place_of of) keys) ≡ filter touches_map (map (place_of of) (filter (touches of) keys))
        → (a b : Bool) → touches of first ≡ a → touches_map (place_of of first) ≡ b
        → filter touches_map (map (place_of of) (first ∷ keys))
        ≡ filter touches_map (map (place_of of) (filter (touches of) (first ∷ keys)))
    by below true true e f = rw (e, f) (ap (λ (places : List Place). place_of of first ∷ places) below)
    by below true false e f = rw (e, f) below
    by below false b e f = rw (e, nowhere of first e) below

pub only_touching : OnlyTouchingKeysCount
only_touching of before later keys =
    let all = maps.only_touching (shape_of of) (face_of of before) (face_of of later) (map (place_of of) keys) in
    let some = maps.only_touching (shape_of of) (face_of of before) (face_of of later)
    (map (place_of of) (filter (touches of) keys)) in
    let same = touching_places of keys in (
      sym all.0 ∙ (ap (merge.merge_form (shape_of of) (face_of of later)) same ∙ some.0),
      sym all.1 ∙ (ap (operation.operation_form (shape_of of) (face_of of before) (face_of of later)) same ∙ some.1),
    )

-- places of keys that touch no part of a resource touch nothing
none_touched : (of : Resource) (keys : List Key) → list_any (touches of) keys ≡ false
    → list_any touches_map (map (place_of of) keys) ≡ false
none_touched of [] none = refl
none_touched of (first ∷ keys) none = by (none_touched of keys) (touches of first) refl
  where
    by : (list_any (touches of) keys ≡ false → list_any touches_map (map (place_of of) keys) ≡ false) → (b : Bool)
        → touches of first ≡ b
        → list_any touches_map (map (place_of of) (first ∷ keys)) ≡ false
    by below true e = let some : list_any (touches of) (first ∷ keys) ≡ true = rw e refl in cc
    by below false e = rw (nowhere of first e) (below (rw e at none))

pub untouched : UntouchedIsEmpty
untouched of before later keys none =
    maps.untouched_empty (shape_of of) (face_of of before) (face_of of later) (map (place_of of) keys)
    (none_touched of keys none)
