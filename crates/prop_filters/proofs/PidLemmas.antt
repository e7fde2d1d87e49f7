-- The name of the property of an address that is its PID, found by its parts.
use Rattle.std.proofs.Common.{◌≡◌, ◌∙◌, ℕ, refl, ap, length, take, drop}
use Rattle.std.specs.Prelude.{Bool, true, false, ◌&&◌, List, [], ◌∷◌, ◌++◌, nat_eq, codes}
use Rattle.std.specs.Cmp.Lexicographic.{pointwise}
use Rattle.alto_rows.specs.Order.{same_name}
use Rattle.prop_filters.specs.Filter.{pid_property}

-- a text that doesn't begin with the first part isn't both
pub other_front : (text front back : List ℕ) → pointwise nat_eq (take (length front) text) front ≡ false
    → false ≡ pointwise nat_eq text (front ++ back)
other_front text [] back e = absurd (cc)
other_front [] (b ∷ front) back e = refl
other_front (a ∷ text) (b ∷ front) back e = by (nat_eq a b) refl e (other_front text front back)
  where
    by : (t : Bool) → nat_eq a b ≡ t → (t && pointwise nat_eq (take (length front) text) front) ≡ false
        → (pointwise nat_eq (take (length front) text) front ≡ false → false ≡ pointwise nat_eq text (front ++ back))
        → false ≡ (nat_eq a b && pointwise nat_eq text (front ++ back))
    by true f e below = rw f (below e)
    by false f e below = rw f refl

-- one that does is both where its rest is the second
pub same_front : (text front back : List ℕ) → pointwise nat_eq (take (length front) text) front ≡ true
    → pointwise nat_eq (drop (length front) text) back ≡ pointwise nat_eq text (front ++ back)
same_front text [] back e = refl
same_front [] (b ∷ front) back e = absurd (cc)
same_front (a ∷ text) (b ∷ front) back e = by (nat_eq a b) refl e (same_front text front back)
  where
    by : (t : Bool) → nat_eq a b ≡ t → (t && pointwise nat_eq (take (length front) text) front) ≡ true
        → (pointwise nat_eq (take (length front) text) front ≡ true
        → pointwise nat_eq (drop (length front) text) back ≡ pointwise nat_eq text (front ++ back))
        → pointwise nat_eq (drop (length front) text) back ≡ (nat_eq a b && pointwise nat_eq text (front ++ back))
    by true f e below = rw f (below e)
    by false f e below = absurd (cc)

-- so of a network's name and what stands behind it
pub other_name : (text net bytes front : List ℕ) → bytes ≡ text → front ≡ net
    → pointwise nat_eq (take (length front) bytes) front ≡ false
    → false ≡ same_name text (pid_property net)
other_name text net bytes front b f h = other_front bytes front (codes ".pid") h
    ∙ (λ i. pointwise nat_eq (b i) (f i ++ codes ".pid"))

pub pid_name : (text net bytes front rest : List ℕ) → bytes ≡ text → front ≡ net
    → pointwise nat_eq (take (length front) bytes) front ≡ true
    → rest ≡ drop (length front) bytes → pointwise nat_eq rest (codes ".pid") ≡ same_name text (pid_property net)
pid_name text net bytes front rest b f h behind =
    ap (λ r. pointwise nat_eq r (codes ".pid")) behind
    ∙ (same_front bytes front (codes ".pid") h ∙ (λ i. pointwise nat_eq (b i) (f i ++ codes ".pid")))
