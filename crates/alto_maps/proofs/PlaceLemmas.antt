-- Which groups and members places touch.
use Rattle.std.proofs.Common.{◌≡◌, refl, ap, sym, ◌∙◌}
use Rattle.std.proofs.Math.Bool.{or_comm}
use Rattle.std.specs.Prelude.{Bool, true, false, ◌&&◌, ◌||◌, cond, List, [], ◌∷◌, Option, Some, None}
use Rattle.std.specs.List.{list_any, cons_option, filter_map}
use Rattle.alto_maps.specs.Shape.{Name, same_name}
use Rattle.alto_maps.specs.Places.{touches_group, touches_member, group_of, member_of, touched_groups, touched_members}
use Rattle.alto_maps.specs.declared.place.Place.{Place}
use Rattle.alto_maps.specs.declared.place.Place.TheVariants as place
use Rattle.alto_maps.proofs.SetLemmas.{any-set_of}

-- what is among the names that items of a list give
any_given : {X : Type 0} (names : X → Option Name) (test : X → Bool) (q : Name)
    → ((x : X) → list_any (same_name q) (cons_option (names x) []) ≡ test x)
    → (xs : List X) → list_any (same_name q) (filter_map names xs) ≡ list_any test xs
any_given names test q each [] = refl
any_given names test q each (x ∷ xs) = by (names x) refl (each x) (any_given names test q each xs)
  where
    by : (o : Option Name) → names x ≡ o → list_any (same_name q) (cons_option (names x) []) ≡ test x
        → list_any (same_name q) (filter_map names xs) ≡ list_any test xs
        → list_any (same_name q) (filter_map names (x ∷ xs)) ≡ list_any test (x ∷ xs)
    by None e is rest = rw (e, sym is ∙ ap (λ o. list_any (same_name q) (cons_option o [])) e) rest
    by (Some other) e is rest =
        rw (
          e,
          sym is ∙ (ap (λ o. list_any (same_name q) (cons_option o [])) e ∙ or_comm (same_name q other) false),
          rest,
        ) refl

group_own : (g : Name) (place : Place)
    → list_any (same_name g) (cons_option (group_of place) []) ≡ touches_group g place
group_own g place.Nowhere = refl
group_own g place.Meta = refl
group_own g (place.Group h) = or_comm (same_name g h) false
group_own g (place.Member h n) = or_comm (same_name g h) false

-- a group is among the touched ones where a place touches it
pub group_touched : (g : Name) (places : List Place)
    → list_any (same_name g) (touched_groups places) ≡ list_any (touches_group g) places
group_touched g places = any-set_of g (filter_map group_of places)
    ∙ any_given group_of (touches_group g) g (group_own g) places

member_own : (g m : Name) (place : Place)
    → list_any (same_name m) (cons_option (member_of g place) []) ≡ touches_member g m place
member_own g m place.Nowhere = refl
member_own g m place.Meta = refl
member_own g m (place.Group h) = refl
member_own g m (place.Member h n) = by (same_name g h)
  where
    by : (b : Bool) → list_any (same_name m) (cons_option (cond b (Some n) None) []) ≡ (b && same_name m n)
    by true = or_comm (same_name m n) false
    by false = refl

-- and so is a member
pub member_touched : (g m : Name) (places : List Place)
    → list_any (same_name m) (touched_members g places) ≡ list_any (touches_member g m) places
member_touched g m places = any-set_of m (filter_map (member_of g) places)
    ∙ any_given (member_of g) (touches_member g m) m (member_own g m) places

-- a group that no place touches has no member that one touches
pub untouched : (g m : Name) (places : List Place) → list_any (touches_group g) places ≡ false
    → list_any (touches_member g m) places ≡ false
untouched g m [] none = refl
untouched g m (at ∷ places) none = by (touches_group g at) refl none (within at) (untouched g m places)
  where
    within : (at : Place) → touches_group g at ≡ false → touches_member g m at ≡ false
    within place.Nowhere e = refl
    within place.Meta e = refl
    within (place.Group h) e = refl
    within (place.Member h n) e = rw e refl

    by : (b : Bool) → touches_group g at ≡ b → (b || list_any (touches_group g) places) ≡ false
        → (touches_group g at ≡ false → touches_member g m at ≡ false)
        → (list_any (touches_group g) places ≡ false → list_any (touches_member g m) places ≡ false)
        → (touches_member g m at || list_any (touches_member g m) places) ≡ false
    by true e none here rest = cc
    by false e none here rest = rw (here e) (rest none)
