-- What ranges give a number: the last row of those that begin by it.
use Rattle.std.proofs.Common.{◌≡◌, ℕ, ◌+◌, ◌-◌, ◌*◌, ◌^◌, ◌<◌, ◌≤◌, refl, ap, ◌∙◌, arith, zero}
use Rattle.std.proofs.Common.{suc}
use Rattle.std.proofs.Math.Nat.{mul-le-mul_left, pow-suc}
use Rattle.std.specs.Prelude.{List, [], ◌∷◌, ◌++◌, Option, cond, nat_le}
use Rattle.std.specs.List.{All, filter}
use Rattle.std.specs.List.Sorted.{IsNonDecreasingBy}
use Rattle.std.proofs.lemmas.Bool.{le-leb, lt-leb}
use Rattle.std.proofs.lemmas.List.Elements.{All-nil, All-cons, All-head, All-tail, All-append}
use Rattle.pid_prefix.specs.declared.range.Range.{Range}
use Rattle.pid_prefix.specs.Ranges.{AreRising, last_row}

-- ---- which ranges begin by a number

-- each of the ranges begins at or before the number
abbrev pub AllBy : ℕ → List Range → Type 0
AllBy number ranges = All (λ range. range.first ≤ number) ranges

-- each begins behind it
abbrev pub AllPast : ℕ → List Range → Type 0
AllPast number ranges = All (λ range. number < range.first) ranges

-- of ranges that all begin by the number, all are kept
pub kept_by : (number : ℕ) (ranges : List Range) → AllBy number ranges
    → filter (λ range. nat_le range.first number) ranges ≡ ranges
kept_by number [] h = refl
kept_by number (range ∷ rest) h =
    let here : range.first ≤ number = All-head (λ range. range.first ≤ number) range rest h in
    ap (λ t. cond t (range ∷ filter (λ range. nat_le range.first number) rest)
    (filter (λ range. nat_le range.first number) rest)) (le-leb range.first number here)
    ∙ ap (λ (kept : List Range). range ∷ kept)
    (kept_by number rest (All-tail (λ range. range.first ≤ number) range rest h))

-- of ranges that all begin behind it, none is
pub none_past : (number : ℕ) (ranges : List Range) → AllPast number ranges
    → filter (λ range. nat_le range.first number) ranges ≡ []
none_past number [] h = refl
none_past number (range ∷ rest) h =
    let here : number < range.first = All-head (λ range. number < range.first) range rest h in
    ap (λ t. cond t (range ∷ filter (λ range. nat_le range.first number) rest)
    (filter (λ range. nat_le range.first number) rest)) (lt-leb range.first number here)
    ∙ none_past number rest (All-tail (λ range. number < range.first) range rest h)

-- ---- the last row

-- the last row of two lists
pub last_row-append : (row : Option ℕ) (ranges more : List Range)
    → last_row row (ranges ++ more) ≡ last_row (last_row row ranges) more
last_row-append row [] more = refl
last_row-append row (range ∷ rest) more = last_row-append range.row rest more

-- ---- rising ranges

-- of rising ranges, none begins before one at an earlier place
pub rising_places : (ranges : List Range) → AreRising ranges → IsNonDecreasingBy (λ range. range.first) ranges
rising_places [] h i j d low below = absurd (omega arith)
rising_places (range ∷ rest) h zero zero d low below = omega arith
rising_places (range ∷ rest) h zero (suc j) d low below = h.0 j d (omega arith)
rising_places (range ∷ rest) h (suc i) zero d low below = absurd (omega arith)
rising_places (range ∷ rest) h (suc i) (suc j) d low below = rising_places rest h.1 i j d (omega arith) (omega arith)

-- two lists of rising ranges, of which the first are at or before the second
pub rising-append : (ranges more : List Range) → AreRising ranges → AreRising more
    → All (λ range. All (λ later. range.first ≤ later.first) more) ranges → AreRising (ranges ++ more)
rising-append [] more g h low = h
rising-append (range ∷ rest) more g h low =
    let Low : Range → Type 0 = λ range. All (λ later. range.first ≤ later.first) more in (
      All-append (λ later. range.first ≤ later.first) rest more g.0 (All-head Low range rest low),
      rising-append rest more g.1 h (All-tail Low range rest low),
    )

-- the first of rising ranges rise
pub rising_front : (ranges more : List Range) → AreRising (ranges ++ more) → AreRising ranges
rising_front [] more h = tt
rising_front (range ∷ rest) more h =
    (All-front (λ later. range.first ≤ later.first) rest more h.0, rising_front rest more h.1)
  where
    All-front : (P : Range → Type 0) (xs ys : List Range) → All P (xs ++ ys) → All P xs
    All-front P [] ys h = All-nil P
    All-front P (x ∷ xs) ys h = All-cons P x xs (All-head P x (xs ++ ys) h)
        (All-front P xs ys (All-tail P x (xs ++ ys) h))

-- and so do the last of them
pub rising_back : (ranges more : List Range) → AreRising (ranges ++ more) → AreRising more
rising_back [] more h = h
rising_back (range ∷ rest) more h = rising_back rest more h.1

-- ---- a search

-- a step that leaves at most half of a part that isn't empty
pub step_halves : (from to wide left n : ℕ) → from ≤ to → 2 ^ (to - from) * wide ≤ n → 0 < wide → 2 * left ≤ wide
    → (2 ^ (to + 1 - from) * left ≤ n) × (2 ^ (to + 1 - from) ≤ 2 * n + 1)
step_halves from to wide left n order fits some half =
    let p = 2 ^ (to - from) in
    let more : to + 1 - from ≡ suc (to - from) = omega arith in
    let twice : 2 ^ (to + 1 - from) ≡ p * 2 = ap (λ k. 2 ^ k) more ∙ pow-suc 2 (to - from) in
    let a : p * (2 * left) ≤ p * wide = mul-le-mul_left p half in
    let b : p * 1 ≤ p * wide = mul-le-mul_left p some in
    rw twice (omega arith, omega arith)
