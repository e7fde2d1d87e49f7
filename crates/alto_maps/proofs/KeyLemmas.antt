-- Keys and the places that they touch.
use Rattle.std.proofs.Common.{◌≡◌, refl, ap}
use Rattle.std.specs.Prelude.{Bool, true, false, ◌||◌, List, [], ◌∷◌, map}
use Rattle.std.specs.List.{list_any}
use Rattle.alto_maps.specs.declared.place.Place.{Place}

-- where no key touches a place, a key that would isn't among them
pub untouched_key : {K : Type 0} (same : K → K → Bool) → ((a b : K) → same a b ≡ true → a ≡ b)
    → (place : K → Place) (touched : Place → Bool) (k : K) (keys : List K)
    → touched (place k) ≡ true → list_any touched (map place keys) ≡ false → list_any (same k) keys ≡ false
untouched_key same exact place touched k [] is none = refl
untouched_key same exact place touched k (x ∷ keys) is none =
    by (touched (place x)) refl none (same k x) refl (untouched_key same exact place touched k keys is)
  where
    by : (t : Bool) → touched (place x) ≡ t → (t || list_any touched (map place keys)) ≡ false
        → (s : Bool) → same k x ≡ s
        → (list_any touched (map place keys) ≡ false → list_any (same k) keys ≡ false)
        → (s || list_any (same k) keys) ≡ false
    by true e none s i rest = cc
    by false e none true i rest = let one = ap (λ y. touched (place y)) (exact k x i) in cc
    by false e none false i rest = rest none
