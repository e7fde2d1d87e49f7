-- How the owners of a draft are filled from rows.
use Rattle.std.proofs.Common.{◌≡◌, refl, ap, sym, ◌∙◌}
use Rattle.std.proofs.lemmas.Bool.{both_ways}
use Rattle.std.specs.Prelude.{ℕ, Bool, true, false, cond, List, [], ◌∷◌, Option, Some, None, is_some}
use Rattle.std.specs.BTreeMap as maps
use Rattle.std.specs.BTreeMap.{BTreeMap, get}
use Rattle.std.specs.Ordering.{is_eq}
use Rattle.alto_rules.specs.declared.place.Place.{Place}
use Rattle.alto_rules.specs.Owners.{HasFilled, kept_or}
use Rattle.alto_rules.specs.Owners.{owner_told, place_cmp}
use Rattle.alto_rules.proofs.Orders.{the_place, place_back}

-- with nothing told, what is kept
pub kept_none : (g : Option (Option (List ℕ))) → kept_or g None ≡ g
kept_none None = refl
kept_none (Some o) = refl

-- one that is told, where none is kept of its prefix
pub filled_one : (of all : BTreeMap Place (Option (List ℕ))) (place : Place) (owner : List ℕ)
    → is_some (get place_cmp of place) ≡ false
    → maps.Updates place_cmp of all place (Some (Some owner)) → HasFilled ((place, owner) ∷ []) of all
filled_one of all place owner none put at =
    put.0 at ∙ rw (place_back at place) (by (is_eq (place_cmp place at)) refl (get place_cmp of at) refl)
  where
    by : (b : Bool) → is_eq (place_cmp place at) ≡ b → (g : Option (Option (List ℕ))) → get place_cmp of at ≡ g
        → cond b (Some (Some owner)) g ≡ kept_or g (cond b (Some owner) None)
    by true e None f = refl
    by true e (Some o) f =
        let same : place ≡ at = the_place place at e in
        let here : is_some (get place_cmp of place) ≡ true = ap (λ (p : Place). is_some (get place_cmp of p)) same
        ∙ ap is_some f in
        absurd (both_ways (is_some (get place_cmp of place)) none here)
    by false e None f = refl
    by false e (Some o) f = refl

-- and where one is kept, nothing changes
pub filled_kept : (of : BTreeMap Place (Option (List ℕ))) (place : Place) (owner : List ℕ)
    → is_some (get place_cmp of place) ≡ true
    → HasFilled ((place, owner) ∷ []) of of
filled_kept of place owner some at =
    rw (place_back at place) (by (is_eq (place_cmp place at)) refl (get place_cmp of at) refl)
  where
    by : (b : Bool) → is_eq (place_cmp place at) ≡ b → (g : Option (Option (List ℕ))) → get place_cmp of at ≡ g
        → g ≡ kept_or g (cond b (Some owner) None)
    by true e None f =
        let same : place ≡ at = the_place place at e in
        let here : is_some (get place_cmp of place) ≡ false = ap (λ (p : Place). is_some (get place_cmp of p)) same
        ∙ ap is_some f in
        absurd (both_ways (is_some (get place_cmp of place)) here some)
    by true e (Some o) f = refl
    by false e None f = refl
    by false e (Some o) f = refl

-- one after another
pub filled_more : (left rest : List (Place × List ℕ)) (place : Place) (owner : List ℕ)
    (all all' : BTreeMap Place (Option (List ℕ)))
    (whole : Place → Option (Option (List ℕ))) → left ≡ (place, owner) ∷ rest → HasFilled ((place, owner) ∷ []) all all'
    → ((at : Place) → kept_or (get place_cmp all at) (owner_told left at) ≡ whole at)
    → (at : Place) → kept_or (get place_cmp all' at) (owner_told rest at) ≡ whole at
filled_more left rest place owner all all' whole first filled before at =
    rw (filled at) (tie (is_eq (place_cmp at place)) (get place_cmp all at) ∙ there)
  where
    there : kept_or (get place_cmp all at) (owner_told ((place, owner) ∷ rest) at) ≡ whole at
    there = ap (λ (told : List (Place × List ℕ)). kept_or (get place_cmp all at) (owner_told told at))
        (sym first) ∙ before at

    tie : (b : Bool) (g : Option (Option (List ℕ)))
        → kept_or (kept_or g (cond b (Some owner) None)) (owner_told rest at)
        ≡ kept_or g (cond b (Some owner) (owner_told rest at))
    tie true None = refl
    tie true (Some h) = refl
    tie false None = refl
    tie false (Some h) = refl
