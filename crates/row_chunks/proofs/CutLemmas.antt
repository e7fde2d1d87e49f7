-- Cuts of what is sorted by keys: what stands before a cut comes first.
use Rattle.std.proofs.Common.{◌≡◌, ◌≢◌, ℕ, zero, suc, ◌<◌, refl, arith, get_or, take, drop, map, inl, inr}
use Rattle.std.proofs.Math.ListN.{get_or-map}
use Rattle.std.proofs.lemmas.Bool.{cases_eq}
use Rattle.std.proofs.lemmas.List.{length-map}
use Rattle.std.proofs.lemmas.Map.Keys.{Less-from_sorted}
use Rattle.std.specs.Prelude.{Bool, true, false, not, List, [], ◌∷◌, length, ◌⊎◌}
use Rattle.std.specs.List.{AllByRecursion, AllWithin}
use Rattle.std.specs.List.Sorted.{IsPartitionedBy, IsPartitionPoint, IsStrictlySortedBy}
use Rattle.std.specs.Ordering.{is_gt, is_lt}
use Rattle.std.specs.declared.cmp.Ordering.{Ordering}
use Rattle.std.specs.declared.cmp.Ordering.TheVariants.{Less, Equal, Greater}
use Rattle.alto_rows.specs.declared.key.Key.{Key}
use Rattle.alto_rows.specs.declared.span.Span.{Span}
use Rattle.alto_rows.specs.Order.{key_cmp}
use Rattle.alto_rows.specs.Span.{span_cmp}
use Rattle.alto_rows.proofs.OrderLemmas.{key_cmp_total}
use Rattle.alto_rows.proofs.RowsLemmas.{less_back, greater_back}
use Rattle.alto_rows.proofs.SpanLemmas.{span_falls}
use Rattle.row_chunks.specs.declared.cut.Cut.{Cut}
use Rattle.row_chunks.specs.declared.cut.Cut.TheVariants.{Before, Behind, BeforeSpan, BehindSpan}
use Rattle.row_chunks.specs.Cut.{keeps}

-- a key that isn't above what isn't above it isn't before it
from_later : (low a b : Key) → key_cmp a b ≡ Less → (o : Ordering) → key_cmp low b ≡ o
    → not (is_gt (key_cmp low a)) ≡ true → not (is_gt (key_cmp low b)) ≡ true
from_later low a b less Less e h = rw e refl
from_later low a b less Equal e h = rw e refl
from_later low a b less Greater e h =
    let before : key_cmp a low ≡ Less = key_cmp_total.trans a b low less (greater_back low b e) in
    let above : key_cmp low a ≡ Greater = less_back a low before in
    let both : not (is_gt Greater) ≡ true = rw above at h in
    cc

-- a span that isn't behind a key isn't behind a later one
span_from_later : (span : Span) (a b : Key) → key_cmp a b ≡ Less → (o : Ordering) → span_cmp span b ≡ o
    → not (is_gt (span_cmp span a)) ≡ true
    → not (is_gt (span_cmp span b)) ≡ true
span_from_later span a b less Less e h = rw e refl
span_from_later span a b less Equal e h = rw e refl
span_from_later span a b less Greater e h =
    let above : span_cmp span a ≡ Greater = (span_falls span a b less).greater e in
    let both : not (is_gt Greater) ≡ true = rw above at h in
    cc

-- what is before is less
less_tests : (o : Ordering) → is_lt o ≡ true → o ≡ Less
less_tests Less h = refl
less_tests Equal h = cc
less_tests Greater h = cc

-- a key after one that is behind a cut is behind it
pub keeps_later : (cut : Cut) (a b : Key) → key_cmp a b ≡ Less → keeps cut a ≡ true → keeps cut b ≡ true
keeps_later (Before low) a b less h = from_later low.now a b less (key_cmp low.now b) refl h
keeps_later (Behind low) a b less h = rw (key_cmp_total.trans low.now a b (less_tests (key_cmp low.now a) h) less) refl
keeps_later (BeforeSpan span) a b less h = span_from_later span.now a b less (span_cmp span.now b) refl h
keeps_later (BehindSpan span) a b less h =
    rw ((span_falls span.now a b less).less (less_tests (span_cmp span.now a) h)) refl

-- and one before a key that isn't, isn't
pub passes_earlier : (cut : Cut) (a b : Key) → key_cmp a b ≡ Less → keeps cut b ≡ false → keeps cut a ≡ false
passes_earlier cut a b less h = by (keeps cut a) refl
  where
    by : (k : Bool) → keeps cut a ≡ k → keeps cut a ≡ false
    by false e = e
    by true e = let later : keeps cut b ≡ true = keeps_later cut a b less e in cc

-- what is sorted by keys can be searched for a cut
pub cut_partitioned : {X : Type 0} (key_of : X → Key) (cut : Cut) (xs : List X)
    → IsStrictlySortedBy key_cmp (map key_of xs)
    → IsPartitionedBy (λ x. not (keeps cut (key_of x))) xs
cut_partitioned key_of cut xs sorted i j d below within later = by (cases_eq i j)
  where
    by : (i ≡ j) ⊎ (i ≢ j) → not (keeps cut (key_of (get_or xs i d))) ≡ true
    by (inl same) = rw same later
    by (inr apart) = passes (keeps cut (key_of (get_or xs j d))) refl
      where
        passes : (b : Bool) → keeps cut (key_of (get_or xs j d)) ≡ b → not (keeps cut (key_of (get_or xs i d))) ≡ true
        passes true e = let both : not true ≡ true = rw e at later in cc
        passes false e =
            let less : i < j = omega arith in
            let in_keys : j < length (map key_of xs) = rw (length-map xs key_of) within in
            let keys : key_cmp (key_of (get_or xs i d)) (key_of (get_or xs j d)) ≡ Less =
            rw (← get_or-map key_of xs i d, ← get_or-map key_of xs j d)
            (Less-from_sorted key_cmp (map key_of xs) i j (key_of d) sorted less in_keys) in
            rw (passes_earlier cut (key_of (get_or xs i d)) (key_of (get_or xs j d)) keys e) refl

-- what holds below a place holds of the first
all_take : {X : Type 0} (P : X → Type 0) (xs : List X) (at : ℕ) → AllWithin P xs 0 at → AllByRecursion P (take at xs)
all_take P [] zero h = tt
all_take P [] (suc at) h = tt
all_take P (x ∷ xs) zero h = tt
all_take P (x ∷ xs) (suc at) h =
    (h 0 x (omega arith) (omega arith), all_take P xs at (λ k d low high. h (suc k) d (omega arith) (omega arith)))

-- and what holds from there on holds of the others
all_drop : {X : Type 0} (P : X → Type 0) (xs : List X) (at : ℕ) → AllWithin P xs at (length xs)
    → AllByRecursion P (drop at xs)
all_drop P [] zero h = tt
all_drop P [] (suc at) h = tt
all_drop P (x ∷ xs) zero h = (
  h 0 x (omega arith) (omega arith),
  all_drop P xs zero (λ k d low high. h (suc k) d (omega arith) (omega arith)),
)
all_drop P (x ∷ xs) (suc at) h = all_drop P xs at (λ k d low high. h (suc k) d (omega arith) (omega arith))

not_true : (b : Bool) → not b ≡ true → b ≡ false
not_true true h = cc
not_true false h = refl

not_false : (b : Bool) → not b ≡ false → b ≡ true
not_false true h = refl
not_false false h = cc

all_more : {X : Type 0} (P Q : X → Type 0) → ((x : X) → P x → Q x) → (xs : List X) → AllByRecursion P xs
    → AllByRecursion Q xs
all_more P Q f [] h = tt
all_more P Q f (x ∷ xs) h = (f x h.0, all_more P Q f xs h.1)

-- the first, up to where a search ends, are before the cut
pub passed_at_point : {X : Type 0} (key_of : X → Key) (cut : Cut) (xs : List X) (at : ℕ)
    → IsPartitionPoint (λ x. not (keeps cut (key_of x)) ≡ true) (λ x. not (keeps cut (key_of x)) ≡ false) xs at
    → AllByRecursion (λ x. keeps cut (key_of x) ≡ false) (take at xs)
passed_at_point key_of cut xs at point =
    all_more (λ x. not (keeps cut (key_of x)) ≡ true) (λ x. keeps cut (key_of x) ≡ false)
    (λ x h. not_true (keeps cut (key_of x)) h) (take at xs)
    (all_take (λ x. not (keeps cut (key_of x)) ≡ true) xs at point.0)

-- and the others are behind it
pub kept_at_point : {X : Type 0} (key_of : X → Key) (cut : Cut) (xs : List X) (at : ℕ)
    → IsPartitionPoint (λ x. not (keeps cut (key_of x)) ≡ true) (λ x. not (keeps cut (key_of x)) ≡ false) xs at
    → AllByRecursion (λ x. keeps cut (key_of x) ≡ true) (drop at xs)
kept_at_point key_of cut xs at point =
    all_more (λ x. not (keeps cut (key_of x)) ≡ false) (λ x. keeps cut (key_of x) ≡ true)
    (λ x h. not_false (keeps cut (key_of x)) h) (drop at xs)
    (all_drop (λ x. not (keeps cut (key_of x)) ≡ false) xs at point.1)
