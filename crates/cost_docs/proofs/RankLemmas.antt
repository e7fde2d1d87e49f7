-- The rank of a cost, by a search among distinct costs, the lowest first.
use Rattle.std.proofs.Common.{◌≡◌, ℕ, zero, suc, ◌≤◌, refl, ap, ◌∙◌, arith, length}
use Rattle.std.proofs.lemmas.Cmp.{nat_cmp_total}
use Rattle.std.specs.Prelude.{Bool, true, false, List, [], ◌∷◌, filter, fold}
use Rattle.std.specs.BTreeSet.{insert_key}
use Rattle.std.specs.List.{AllByRecursion, AllWithin}
use Rattle.std.specs.List.Sorted.{IsStrictlySortedBy}
use Rattle.std.specs.Ordering.{nat_cmp, match_ordering, ordering_reverse}
use Rattle.std.specs.declared.cmp.Ordering.{Ordering}
use Rattle.std.specs.declared.cmp.Ordering.TheVariants.{Less, Equal, Greater}
use Rattle.cost_docs.specs.Ordinal.{distinct}

-- where those that pass a test end, so many pass it
pub count_passing : (test : ℕ → Bool) (xs : List ℕ) (i : ℕ) → i ≤ length xs → AllWithin (λ y. test y ≡ true) xs 0 i
    → AllWithin (λ y. test y ≡ false) xs i (length xs)
    → length (filter test xs) ≡ i
count_passing test [] i within below above = omega arith
count_passing test (x ∷ xs) zero within below above =
    let here : test x ≡ false = above 0 x (omega arith) (omega arith) in
    rw here (count_passing test xs zero (omega arith) (λ k d low high. absurd (omega arith))
    (λ k d low high. above (suc k) d (omega arith) (omega arith)))
count_passing test (x ∷ xs) (suc i) within below above =
    let here : test x ≡ true = below 0 x (omega arith) (omega arith) in
    rw here (ap suc (count_passing test xs i (omega arith) (λ k d low high. below (suc k) d (omega arith) (omega arith))
    (λ k d low high. above (suc k) d (omega arith) (omega arith))))

-- ---- distinct costs rise

-- all of these are above one
abbrev AreAbove : ℕ → List ℕ → Type 0
AreAbove low costs = AllByRecursion (λ x. nat_cmp low x ≡ Less) costs

above_lesser : (low high : ℕ) (costs : List ℕ) → nat_cmp low high ≡ Less → AreAbove high costs → AreAbove low costs
above_lesser low high [] less h = tt
above_lesser low high (x ∷ xs) less h = (nat_cmp_total.trans low high x less h.0, above_lesser low high xs less h.1)

above_inserted : (low cost : ℕ) (costs : List ℕ) → nat_cmp low cost ≡ Less → AreAbove low costs
    → AreAbove low (insert_key nat_cmp costs cost)
above_inserted low cost [] less h = (less, tt)
above_inserted low cost (x ∷ xs) less h = by (nat_cmp cost x) (above_inserted low cost xs less h.1)
  where
    by : (o : Ordering) → AreAbove low (insert_key nat_cmp xs cost)
        → AreAbove low (match_ordering o (cost ∷ x ∷ xs) (x ∷ xs) (x ∷ insert_key nat_cmp xs cost))
    by Less rest = (less, h)
    by Equal rest = h
    by Greater rest = (h.0, rest)

rise_inserted : (cost : ℕ) (costs : List ℕ) → IsStrictlySortedBy nat_cmp costs
    → IsStrictlySortedBy nat_cmp (insert_key nat_cmp costs cost)
unfolding IsStrictlySortedBy
rise_inserted cost [] h = (tt, tt)
rise_inserted cost (x ∷ xs) h = by (nat_cmp cost x) refl (rise_inserted cost xs h.1)
  where
    by : (o : Ordering) → nat_cmp cost x ≡ o → IsStrictlySortedBy nat_cmp (insert_key nat_cmp xs cost)
        → IsStrictlySortedBy nat_cmp (match_ordering o (cost ∷ x ∷ xs) (x ∷ xs) (x ∷ insert_key nat_cmp xs cost))
    by Less is rest = ((is, above_lesser cost x xs is h.0), h)
    by Equal is rest = h
    by Greater is rest =
        let back : nat_cmp x cost ≡ Less = nat_cmp_total.antisymm x cost ∙ ap ordering_reverse is in
        (above_inserted x cost xs back h.0, rest)

pub distinct_rise : (costs : List ℕ) → IsStrictlySortedBy nat_cmp (distinct costs)
unfolding IsStrictlySortedBy
distinct_rise costs = by [] costs tt
  where
    by : (set more : List ℕ) → IsStrictlySortedBy nat_cmp set
        → IsStrictlySortedBy nat_cmp (fold (λ all cost. insert_key nat_cmp all cost) set more)
    by set [] h = h
    by set (cost ∷ more) h = by (insert_key nat_cmp set cost) more (rise_inserted cost set h)
