-- The bucket of a number says in which part of rising numbers it stands.
use Rattle.std.proofs.Common.{◌≡◌, ◌+◌, ◌-◌, ◌/◌, ◌^◌, ◌<◌, ◌≤◌, ◌⊎◌, inl, inr, [], ◌∷◌, ◌++◌, ℕ, arith, pow_pos}
use Rattle.std.proofs.Common.{get_or, length, List, subst, sym, zero}
use Rattle.std.proofs.lemmas.List.{get_or_append_left, get_or_push, length-append}
use Rattle.std.proofs.Math.Nat.{div-eq_of_lt, div-mul-le_self}
use Rattle.std.proofs.Math.Pow.{pow_mono}
use Rattle.std.proofs.lemmas.Bool.{cases_lt}
use Rattle.std.proofs.lemmas.Nat.{le-div}
use Rattle.std.specs.List.{AllWithin}
use Rattle.std.specs.List.Sorted.{IsNonDecreasingBy}
use Rattle.pid_prefix.specs.Index.{AreBelow, EndsIn, IndexData, IsIndexOf, bucket_of, leading}

-- of two numbers the lesser is in no later bucket
pub buckets_rise : (shift least one other : ℕ) → one ≤ other
    → bucket_of shift least one ≤ bucket_of shift least other
buckets_rise shift least one other order =
    let divided : one / 2 ^ shift ≤ other / 2 ^ shift =
    le-div (one / 2 ^ shift) other (2 ^ shift) (pow_pos shift)
    (omega (arith, order, div-mul-le_self one (2 ^ shift))) in
    omega (arith, divided)

-- rising numbers have rising buckets
pub buckets_of_rising : {A : Type 0} (value : A → ℕ) (numbers : List A) (shift least : ℕ)
    → IsNonDecreasingBy value numbers → IsNonDecreasingBy (λ number. bucket_of shift least (value number)) numbers
buckets_of_rising value numbers shift least rising i j d order within =
    buckets_rise shift least _ _ (rising i j d order within)

-- a number in an earlier bucket is the lesser
lesser : (shift least one other : ℕ) → bucket_of shift least one < bucket_of shift least other → one < other
lesser shift least one other before = by (cases_lt one other)
  where
    by : (one < other) ⊎ (other ≤ one) → one < other
    by (inl less) = less
    by (inr order) = absurd (omega (arith, before, buckets_rise shift least other one order))

-- a search ends between those before the number's bucket and those before the next one
pub ends_in_bucket : {A : Type 0} (value : A → ℕ) (numbers : List A) (shift least sought low high : ℕ)
    → AreBelow value numbers shift least (bucket_of shift least sought) low
    → AreBelow value numbers shift least (bucket_of shift least sought + 1) high
    → EndsIn value numbers sought low (high - low)
ends_in_bucket value numbers shift least sought low high before behind = record {
  within = omega (arith, before.1, behind.1);
  before = λ k d from to.
      omega (arith, lesser shift least (value (get_or numbers k d)) sought (before.0.0 k d from to));
  behind = λ k d from to.
      lesser shift least sought (value (get_or numbers k d)) (omega (arith, behind.0.1 k d (omega (arith, from)) to));
}

-- and so it ends where the index says
pub ends_by_index : {A : Type 0} (value : A → ℕ) (numbers : List A) (index : IndexData)
    → (sought bucket next low high : ℕ) → IsIndexOf value numbers index
    → bucket ≡ bucket_of index.shift index.least sought → next ≡ bucket + 1
    → bucket < length index.below → low ≡ get_or index.below bucket low
    → next < length index.below → high ≡ get_or index.below next high
    → EndsIn value numbers sought low (high - low)
ends_by_index value numbers index sought bucket next low high counts is follows low_in low_is high_in high_is =
    let AreBefore = AreBelow value numbers index.shift index.least in
    let before : AreBefore bucket low = subst (AreBefore bucket) (sym low_is) (counts bucket low low_in) in
    let behind : AreBefore next high = subst (AreBefore next) (sym high_is) (counts next high high_in) in
    ends_in_bucket value numbers index.shift index.least sought low high
    (subst (λ at. AreBefore at low) is before)
    (subst (λ at. AreBefore (at + 1) high) is (subst (λ at. AreBefore at high) follows behind))

-- the index with a bucket more
pub counts_more : {A : Type 0} (value : A → ℕ) (numbers : List A) (shift least : ℕ) (below : List ℕ) (count : ℕ)
    → IsIndexOf value numbers (record { shift = shift; least = least; below = below })
    → AreBelow value numbers shift least (length below) count
    → IsIndexOf value numbers (record { shift = shift; least = least; below = below ++ count ∷ [] })
counts_more value numbers shift least below count counts last bucket d within = by (cases_lt bucket (length below))
  where
    Counts : ℕ → Type 0
    Counts = λ (n : ℕ). AreBelow value numbers shift least bucket n

    by : (bucket < length below) ⊎ (length below ≤ bucket) → Counts (get_or (below ++ count ∷ []) bucket d)
    by (inl earlier) =
        subst Counts (sym (get_or_append_left below (count ∷ []) d bucket earlier)) (counts bucket d earlier)
    by (inr past) =
        let at : length below ≡ bucket = omega (arith, past, within, length-append below (count ∷ [])) in
        subst Counts (sym (get_or_push below count d bucket at))
        (subst (λ b. AreBelow value numbers shift least b count) at last)

-- a number has no bits past its width
pub none_left : (number width shift : ℕ) → number < 2 ^ width → width ≤ shift → zero ≡ leading shift number
none_left number width shift fits past =
    let wide : 2 ^ width ≤ 2 ^ shift = pow_mono past in
    let none : number / 2 ^ shift ≡ zero = div-eq_of_lt (omega (arith, fits, wide)) in
    omega (arith, none)
