-- Sets of names: what is in them, and that they stand in byte order.
use Rattle.std.proofs.Common.{◌≡◌, refl, ap, sym, ◌∙◌}
use Rattle.std.proofs.Math.Bool.{or_assoc, or_comm, or_self_left}
use Rattle.std.proofs.lemmas.Cmp.{nat_list_cmp_total, nat_list_eq_equiv}
use Rattle.std.proofs.lemmas.List.Sums.{fold-append}
use Rattle.std.proofs.lemmas.Map.Text.{is_eq-slice_cmp}
use Rattle.std.specs.Prelude.{Bool, true, false, ◌||◌, List, [], ◌∷◌, ◌++◌, fold}
use Rattle.std.specs.BTreeSet.{insert_key}
use Rattle.std.specs.Cmp.Lexicographic.{slice_cmp, same_text}
use Rattle.std.specs.List.{AllByRecursion, list_any}
use Rattle.std.specs.List.Sorted.{IsStrictlySortedBy}
use Rattle.std.specs.Ordering.{nat_cmp, is_eq, match_ordering}
use Rattle.std.specs.declared.cmp.Ordering.{Ordering}
use Rattle.std.specs.declared.cmp.Ordering.TheVariants.{Less, Equal, Greater}
use Rattle.json_tree.proofs.Lookups.{one_name}
use Rattle.json_tree.proofs.OrderLemmas.{greater_back}
use Rattle.alto_maps.specs.Shape.{Name, same_name}
use Rattle.alto_maps.specs.Places.{set_of}

-- ---- names

-- names that are the same are one
pub one : (a b : Name) → same_name a b ≡ true → a ≡ b
one a b same = same_text a b (sym same)

pub itself : (k : Name) → same_name k k ≡ true
itself k = nat_list_eq_equiv.refl k

-- a name isn't itself and another
pub other_name : (q k : Name) → same_name q k ≡ false → q ≡ k → ⊥
other_name q k other is =
    let same : same_name q k ≡ true = ap (same_name q) (sym is) ∙ itself q in
    cc

-- ---- what is in a set

-- a set with one name more
abbrev pub with_name : List Name → Name → List Name
with_name set name = insert_key (slice_cmp nat_cmp) set name

or_swap : (a b c : Bool) → (a || (b || c)) ≡ (b || (a || c))
or_swap a b c = sym (or_assoc a b c) ∙ (ap (λ x. x || c) (or_comm a b) ∙ or_assoc b a c)

any-with_name : (q k : Name) (set : List Name)
    → list_any (same_name q) (with_name set k) ≡ (same_name q k || list_any (same_name q) set)
any-with_name q k [] = refl
any-with_name q k (x ∷ xs) = by (slice_cmp nat_cmp k x) refl (any-with_name q k xs)
  where
    by : (o : Ordering) → slice_cmp nat_cmp k x ≡ o
        → list_any (same_name q) (with_name xs k) ≡ (same_name q k || list_any (same_name q) xs)
        → list_any (same_name q) (match_ordering o (k ∷ x ∷ xs) (x ∷ xs) (x ∷ with_name xs k))
        ≡ (same_name q k || (same_name q x || list_any (same_name q) xs))
    by Less is rest = refl
    by Equal is rest = rw (one_name k x is) (sym (or_self_left (same_name q x) (list_any (same_name q) xs)))
    by Greater is rest = rw rest (or_swap (same_name q x) (same_name q k) (list_any (same_name q) xs))

any-fold : (q : Name) (set names : List Name)
    → list_any (same_name q) (fold with_name set names) ≡ (list_any (same_name q) names || list_any (same_name q) set)
any-fold q set [] = refl
any-fold q set (x ∷ xs) =
    any-fold q (with_name set x) xs
    ∙ rw (any-with_name q x set)
    (or_swap (list_any (same_name q) xs) (same_name q x) (list_any (same_name q) set)
    ∙ sym (or_assoc (same_name q x) (list_any (same_name q) xs) (list_any (same_name q) set)))

-- a set has the names that the list has
pub any-set_of : (q : Name) (names : List Name) → list_any (same_name q) (set_of names) ≡ list_any (same_name q) names
unfolding set_of
any-set_of q names = any-fold q [] names ∙ or_comm (list_any (same_name q) names) false

-- the set of one name more
pub set_of-push : (names : List Name) (name : Name) → set_of (names ++ name ∷ []) ≡ with_name (set_of names) name
unfolding set_of
set_of-push names name = fold-append with_name [] names (name ∷ [])

-- ---- sets stand in byte order

-- all these names are above one
abbrev pub AreAbove : Name → List Name → Type 0
AreAbove j names = AllByRecursion (λ x. slice_cmp nat_cmp j x ≡ Less) names

pub above_lesser : (k l : Name) (names : List Name) → slice_cmp nat_cmp k l ≡ Less → AreAbove l names → AreAbove k names
above_lesser k l [] less h = tt
above_lesser k l (x ∷ xs) less h = (nat_list_cmp_total.trans k l x less h.0, above_lesser k l xs less h.1)

-- names above one aren't it
pub none_above : (m n : Name) (names : List Name) → AreAbove n names → m ≡ n → list_any (same_name m) names ≡ false
none_above m n [] h is = refl
none_above m n (x ∷ xs) h is =
    let apart : same_name m x ≡ false = ap (λ y. same_name y x) is ∙ (sym (is_eq-slice_cmp n x) ∙ ap is_eq h.0) in
    rw apart (none_above m n xs h.1 is)

above-with_name : (j k : Name) (set : List Name) → slice_cmp nat_cmp j k ≡ Less → AreAbove j set
    → AreAbove j (with_name set k)
above-with_name j k [] less h = (less, tt)
above-with_name j k (x ∷ xs) less h = by (slice_cmp nat_cmp k x) (above-with_name j k xs less h.1)
  where
    by : (o : Ordering) → AreAbove j (with_name xs k)
        → AreAbove j (match_ordering o (k ∷ x ∷ xs) (x ∷ xs) (x ∷ with_name xs k))
    by Less rest = (less, h)
    by Equal rest = h
    by Greater rest = (h.0, rest)

-- the names rise
abbrev pub Rise : List Name → Type 0
Rise names = IsStrictlySortedBy (slice_cmp nat_cmp) names

rise-with_name : (k : Name) (set : List Name) → Rise set → Rise (with_name set k)
unfolding IsStrictlySortedBy
rise-with_name k [] h = (tt, tt)
rise-with_name k (x ∷ xs) h = by (slice_cmp nat_cmp k x) k x xs refl h (rise-with_name k xs h.1)
  where
    by : (o : Ordering) (k x : Name) (xs : List Name) → slice_cmp nat_cmp k x ≡ o → Rise (x ∷ xs)
        → Rise (with_name xs k)
        → Rise (match_ordering o (k ∷ x ∷ xs) (x ∷ xs) (x ∷ with_name xs k))
    by Less k x xs is h rest = ((is, above_lesser k x xs is h.0), h)
    by Equal k x xs is h rest = h
    by Greater k x xs is h rest = (above-with_name x k xs (greater_back k x is) h.0, rest)

rise-fold : (set names : List Name) → Rise set → Rise (fold with_name set names)
rise-fold set [] h = h
rise-fold set (x ∷ xs) h = rise-fold (with_name set x) xs (rise-with_name x set h)

pub rise-set_of : (names : List Name) → Rise (set_of names)
unfolding set_of IsStrictlySortedBy
rise-set_of names = rise-fold [] names tt
