-- Names that were sorted, of which equal neighbours are one, are the set of them.
use Rattle.std.proofs.Common.{◌≡◌, ◌∙◌, refl, ap, sym, subst}
use Rattle.std.proofs.Math.Bool.{or_self_left}
use Rattle.std.proofs.lemmas.Bool.{or_left}
use Rattle.std.proofs.lemmas.Cmp.{nat_list_cmp_total}
use Rattle.std.proofs.lemmas.List.Kept.{IsStrictlySortedBy-dedup}
use Rattle.std.proofs.lemmas.List.Sorted.{list_any-IsPermutation}
use Rattle.std.proofs.lemmas.Map.Text.{is_eq-slice_cmp}
use Rattle.std.specs.Prelude.{Bool, true, false, ◌||◌, cond, List, [], ◌∷◌}
use Rattle.std.specs.Cmp.Lexicographic.{slice_cmp}
use Rattle.std.specs.List.{dedup, dedup_from, list_any}
use Rattle.std.specs.List.Sorted.{IsPermutation, IsSorted, IsStrictlySortedBy}
use Rattle.std.specs.Ordering.{nat_cmp}
use Rattle.std.specs.declared.cmp.Ordering.{Ordering}
use Rattle.std.specs.declared.cmp.Ordering.TheVariants.{Less, Equal, Greater}
use Rattle.json_tree.proofs.Lookups.{one_name}
use Rattle.json_tree.proofs.OrderLemmas.{greater_back}
use Rattle.alto_maps.specs.Places.{set_of}
use Rattle.alto_maps.specs.Shape.{Name, same_name}
use Rattle.alto_maps.proofs.SetLemmas.{Rise, above_lesser, any-set_of, itself, none_above, one, rise-set_of}

-- ---- one set has one list

same_tails : (x : Name) (xs ys : List Name) → Rise (x ∷ xs) → Rise (x ∷ ys)
    → ((q : Name) → list_any (same_name q) (x ∷ xs) ≡ list_any (same_name q) (x ∷ ys))
    → (q : Name) → list_any (same_name q) xs ≡ list_any (same_name q) ys
unfolding IsStrictlySortedBy
same_tails x xs ys a b same q = by (same_name q x) refl
  where
    by : (t : Bool) → same_name q x ≡ t → list_any (same_name q) xs ≡ list_any (same_name q) ys
    by true e = none_above q x xs a.0 (one q x e) ∙ sym (none_above q x ys b.0 (one q x e))
    by false e = rw e at (same q)

-- rising names with the same members are the same
same_sets : (xs ys : List Name) → Rise xs → Rise ys
    → ((q : Name) → list_any (same_name q) xs ≡ list_any (same_name q) ys) → xs ≡ ys
unfolding IsStrictlySortedBy
same_sets [] [] a b same = refl
same_sets [] (y ∷ ys) a b same =
    let none : false ≡ true = same y ∙ or_left (same_name y y) (list_any (same_name y) ys) (itself y) in cc
same_sets (x ∷ xs) [] a b same =
    let none : false ≡ true = sym (same x) ∙ or_left (same_name x x) (list_any (same_name x) xs) (itself x) in cc
same_sets (x ∷ xs) (y ∷ ys) a b same =
    by (slice_cmp nat_cmp x y) refl
    (λ is. same_sets xs ys a.1 b.1 (same_tails y xs ys (rw is at a) b (rw is at same)))
  where
    by : (o : Ordering) → slice_cmp nat_cmp x y ≡ o → (x ≡ y → xs ≡ ys) → (x ∷ xs) ≡ (y ∷ ys)
    by Less e rest =
        let none : list_any (same_name x) (y ∷ ys) ≡ false =
        none_above x x (y ∷ ys) (e, above_lesser x y ys e b.0) refl in
        let both : true ≡ false =
        sym (or_left (same_name x x) (list_any (same_name x) xs) (itself x)) ∙ (same x ∙ none) in cc
    by Greater e rest =
        let less : slice_cmp nat_cmp y x ≡ Less = greater_back x y e in
        let none : list_any (same_name y) (x ∷ xs) ≡ false =
        none_above y y (x ∷ xs) (less, above_lesser y x xs less a.0) refl in
        let both : true ≡ false =
        sym (or_left (same_name y y) (list_any (same_name y) ys) (itself y)) ∙ (sym (same y) ∙ none) in cc
    by Equal e rest = let is : x ≡ y = one_name x y e in λ i. is i ∷ rest is i

-- ---- equal neighbours are one

any-dedup_from : (q k : Name) (xs : List Name)
    → list_any (same_name q) (dedup_from same_name k xs) ≡ (same_name q k || list_any (same_name q) xs)
any-dedup_from q k [] = refl
any-dedup_from q k (x ∷ xs) = by (same_name x k) refl (any-dedup_from q k xs) (any-dedup_from q x xs)
  where
    by : (t : Bool) → same_name x k ≡ t
        → list_any (same_name q) (dedup_from same_name k xs) ≡ (same_name q k || list_any (same_name q) xs)
        → list_any (same_name q) (dedup_from same_name x xs) ≡ (same_name q x || list_any (same_name q) xs)
        → list_any (same_name q) (cond t (dedup_from same_name k xs) (k ∷ dedup_from same_name x xs))
        ≡ (same_name q k || (same_name q x || list_any (same_name q) xs))
    by true e kept rest =
        rw (one x k e) (kept ∙ sym (or_self_left (same_name q k) (list_any (same_name q) xs)))
    by false e kept rest = rw rest refl

any-dedup : (q : Name) (xs : List Name) → list_any (same_name q) (dedup same_name xs) ≡ list_any (same_name q) xs
any-dedup q [] = refl
any-dedup q (x ∷ xs) = any-dedup_from q x xs

-- what is left of names that were sorted
pub sorted_set : (names sorted left : List Name) → IsPermutation names sorted → IsSorted (slice_cmp nat_cmp) sorted
    → left ≡ dedup same_name sorted → left ≡ set_of names
sorted_set names sorted left moved in_order is =
    let rise : Rise left =
    subst Rise (sym is)
    (IsStrictlySortedBy-dedup nat_list_cmp_total (λ x y. sym (is_eq-slice_cmp x y)) sorted in_order) in
    same_sets left (set_of names) rise (rise-set_of names)
    (λ q. ap (list_any (same_name q)) is
    ∙ (any-dedup q sorted
    ∙ (sym (list_any-IsPermutation (same_name q) names sorted moved) ∙ sym (any-set_of q names))))
