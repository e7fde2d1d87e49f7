-- With which number a resource was last declared: since then it was declared all along.
use Rattle.std.proofs.Common.{◌≡◌, refl, ap, sym, ◌∙◌, arith, suc, zero, inl, inr}
use Rattle.std.proofs.lemmas.Bool.{both_ways, cases_lt}
use Rattle.std.proofs.lemmas.List.{length-append, length-take-le, take_all}
use Rattle.std.proofs.lemmas.List.Elements.{filter-append}
use Rattle.std.proofs.lemmas.List.Sums.{fold-append}
use Rattle.std.proofs.lemmas.Option.{slice_get_within}
use Rattle.std.specs.Prelude.{ℕ, ◌+◌, ◌-◌, ◌<◌, ◌≤◌, ◌⊎◌, Bool, true, false, cond, not, ◌&&◌, List, [], ◌∷◌, length}
use Rattle.std.specs.Prelude.{take, filter, fold, Option, Some, None, slice_get}
use Rattle.std.specs.List.{enumerate_from}
use Rattle.alto_rows.specs.declared.resource.Resource.{Resource}
use Rattle.alto_rows.specs.Accepted.{Accepted}
use Rattle.alto_rows.specs.Rows.{Rows}
use Rattle.alto_rows.specs.Versions.{is_declared, version_of}
use Rattle.alto_book.specs.Book.{Book, Extends, state_at, rows_of}
use Rattle.alto_book.specs.Legal.{IsLegal}
use Rattle.alto_book.specs.Numbers.{declares, number_declared}
use Rattle.alto_book.proofs.BetweenLemmas.{take-next, take-end, enumerate_from-append}
use Rattle.alto_book.proofs.ChangeLemmas.{state_at-extended, slice_get-extended}
use Rattle.alto_book.proofs.GivenLemmas.{renews_declared}
use Rattle.alto_book.proofs.NumberLemmas.{version_of-later}
use Rattle.alto_book.proofs.PlaceLemmas.{version_of-next}
use Rattle.alto_book.proofs.StateLemmas.{state_at-next, state_at-past, state_at-all, good_state}

-- ---- the last of the first batches that declares it

-- the number that the last of numbered batches that declares a resource gives it
abbrev last_declared : Book → Resource → ℕ → List (ℕ × Accepted) → ℕ
last_declared book of before numbered =
    fold (λ (_ : ℕ) (one : ℕ × Accepted). version_of (state_at book one.0) of)
    before (filter (declares book of) numbered)

-- the number that the last of the first n batches that declares a resource gives it, 0 where none does
abbrev pub declared_upto : Book → Resource → ℕ → ℕ
declared_upto book of n = last_declared book of 0 (enumerate_from 1 (take n book.batches))

-- all batches
pub declared_upto-all : (book : Book) (of : Resource)
    → declared_upto book of (length book.batches) ≡ number_declared book of
declared_upto-all book of =
    ap (λ (batches : List Accepted). last_declared book of 0 (enumerate_from 1 batches))
    (take_all (length book.batches) book.batches (omega arith))

-- a resource isn't declared after the first n batches, and is after one more
abbrev pub is_newly : Book → Resource → ℕ → Bool
is_newly book of n = not (is_declared (state_at book n) of) && is_declared (state_at book (suc n)) of

-- one batch more
pub declared_upto-next : (book : Book) (of : Resource) (n : ℕ) (batch : Accepted)
    → slice_get book.batches n ≡ Some batch
    → declared_upto book of (suc n) ≡ cond (is_newly book of n) (version_of (state_at book (suc n)) of)
    (declared_upto book of n)
declared_upto-next book of n batch there =
    ap (λ (batches : List Accepted). last_declared book of 0 (enumerate_from 1 batches))
    (take-next book.batches n batch there)
    ∙ (ap (last_declared book of 0) (enumerate_from-append 1 front (batch ∷ []))
    ∙ (ap (fold (λ (_ : ℕ) (one : ℕ × Accepted). version_of (state_at book one.0) of) 0)
    (filter-append (declares book of) (enumerate_from 1 front) (enumerate_from (1 + length front) (batch ∷ [])))
    ∙ (fold-append (λ (_ : ℕ) (one : ℕ × Accepted). version_of (state_at book one.0) of) 0
    (filter (declares book of) (enumerate_from 1 front))
    (filter (declares book of) (enumerate_from (1 + length front) (batch ∷ [])))
    ∙ (ap (λ (place : ℕ). last_declared book of (declared_upto book of n) (enumerate_from place (batch ∷ []))) counted
    ∙ (one (suc n - 1) before)))))
  where
    front : List Accepted
    front = take n book.batches

    within : n < length book.batches
    within = slice_get_within book.batches n batch there

    counted : 1 + length front ≡ suc n
    counted = let le : n < length book.batches = within in
        let same : length front ≡ n = length-take-le n book.batches (omega arith) in omega arith

    before : suc n - 1 ≡ n
    before = omega arith

    by : (b : Bool) → is_newly book of n ≡ b → (place : ℕ)
        → (not (is_declared (state_at book place) of) && is_declared (state_at book (suc n)) of) ≡ b
        → (fold (λ (_ : ℕ) (one : ℕ × Accepted). version_of (state_at book one.0) of) (declared_upto book of n)
        (cond (not (is_declared (state_at book place) of) && is_declared (state_at book (suc n)) of)
        ((suc n, batch) ∷ []) []))
        ≡ cond (is_newly book of n) (version_of (state_at book (suc n)) of) (declared_upto book of n)
    by true e place f = rw (e, f) refl
    by false e place f = rw (e, f) refl

    one : (place : ℕ) → place ≡ n
        → (fold (λ (_ : ℕ) (one : ℕ × Accepted). version_of (state_at book one.0) of) (declared_upto book of n)
        (cond (not (is_declared (state_at book place) of) && is_declared (state_at book (suc n)) of)
        ((suc n, batch) ∷ []) []))
        ≡ cond (is_newly book of n) (version_of (state_at book (suc n)) of) (declared_upto book of n)
    one place same = by (is_newly book of n) refl
        place (ap (λ (m : ℕ). not (is_declared (state_at book m) of) && is_declared (state_at book (suc n)) of) same)

-- past the last batch it stays
pub declared_upto-past : (book : Book) (of : Resource) (n : ℕ) → slice_get book.batches n ≡ None
    → declared_upto book of (suc n) ≡ declared_upto book of n
declared_upto-past book of n h =
    ap (λ (batches : List Accepted). last_declared book of 0 (enumerate_from 1 batches)) (take-end book.batches n h)

-- ---- what it bounds

-- it isn't above the version
pub declared_upto_below : (book : Book) (of : Resource) (n : ℕ) → IsLegal book
    → declared_upto book of n ≤ version_of (state_at book n) of
declared_upto_below book of zero legal = omega arith
declared_upto_below book of (suc n) legal = by (declared_upto_below book of n legal) (slice_get book.batches n) refl
  where
    rises : version_of (state_at book n) of ≤ version_of (state_at book (suc n)) of
    rises = version_of-later book n (suc n) of legal (omega arith)

    either : declared_upto book of n ≤ version_of (state_at book n) of → (b : Bool)
        → cond b (version_of (state_at book (suc n)) of) (declared_upto book of n)
        ≤ version_of (state_at book (suc n)) of
    either below true = omega arith
    either below false = omega (arith, below, rises)

    by : declared_upto book of n ≤ version_of (state_at book n) of → (o : Option Accepted)
        → slice_get book.batches n ≡ o
        → declared_upto book of (suc n) ≤ version_of (state_at book (suc n)) of
    by below None e = rw (declared_upto-past book of n e) (omega (arith, below, rises))
    by below (Some batch) e = rw (declared_upto-next book of n batch e) (either below (is_newly book of n))

-- it never falls
declared_upto_step : (book : Book) (of : Resource) (n : ℕ) → IsLegal book
    → declared_upto book of n ≤ declared_upto book of (suc n)
declared_upto_step book of n legal = by (slice_get book.batches n) refl
  where
    upto : declared_upto book of n ≤ version_of (state_at book (suc n)) of
    upto =
        let below : declared_upto book of n ≤ version_of (state_at book n) of = declared_upto_below book of n legal in
        let rises : version_of (state_at book n) of ≤ version_of (state_at book (suc n)) of =
        version_of-later book n (suc n) of legal (omega arith) in
        omega (arith, below, rises)

    either : (b : Bool) → declared_upto book of n ≤ cond b (version_of (state_at book (suc n)) of)
        (declared_upto book of n)
    either true = upto
    either false = omega arith

    by : (o : Option Accepted) → slice_get book.batches n ≡ o → declared_upto book of n ≤ declared_upto book of (suc n)
    by None e = rw (declared_upto-past book of n e) (omega arith)
    by (Some batch) e = rw (declared_upto-next book of n batch e) (either (is_newly book of n))

pub declared_upto_rises : (book : Book) (of : Resource) (d m n : ℕ) → IsLegal book → n ≡ d + m
    → declared_upto book of m ≤ declared_upto book of n
declared_upto_rises book of zero m n legal e = let same : n ≡ m = omega arith in rw same (omega arith)
declared_upto_rises book of (suc d) m n legal e =
    let is : n ≡ suc (d + m) = omega arith in
    let below : declared_upto book of m ≤ declared_upto book of (d + m) =
    declared_upto_rises book of d m (d + m) legal refl in
    let step : declared_upto book of (d + m) ≤ declared_upto book of (suc (d + m)) =
    declared_upto_step book of (d + m) legal in
    rw is (omega (arith, below, step))

-- ---- since then it was declared

-- a resource that wasn't declared once and is now was declared later, with a higher number
undeclared_below : (book : Book) (of : Resource) (m n : ℕ) → IsLegal book → m ≤ n
    → is_declared (state_at book n) of ≡ true → is_declared (state_at book m) of ≡ false
    → version_of (state_at book m) of < declared_upto book of n
undeclared_below book of m zero legal le now out =
    let same : m ≡ zero = omega arith in
    absurd (both_ways (is_declared (state_at book m) of) out (rw same now))
undeclared_below book of m (suc n) legal le now out =
    by (λ upto here. undeclared_below book of m n legal upto here out) (cases_lt m (suc n))
  where
    newly : (batch : Accepted) → slice_get book.batches n ≡ Some batch → is_declared (state_at book n) of ≡ false
        → version_of (state_at book (suc n)) of ≡ version_of (state_at book n) of + 1
    newly batch e before =
        version_of-next book of n batch legal e
        ∙ rw (renews_declared (state_at book n) batch of (good_state book n legal) (legal.each n batch e) before
        (ap (λ (rows : Rows). is_declared rows of) (sym (state_at-next book n batch e)) ∙ now)) refl

    step : m ≤ n → (m ≤ n → is_declared (state_at book n) of ≡ true
        → version_of (state_at book m) of < declared_upto book of n)
        → (o : Option Accepted) → slice_get book.batches n ≡ o → (d : Bool) → is_declared (state_at book n) of ≡ d
        → version_of (state_at book m) of < declared_upto book of (suc n)
    step upto below None e d f =
        let here : is_declared (state_at book n) of ≡ true =
        ap (λ (rows : Rows). is_declared rows of) (sym (state_at-past book n e)) ∙ now in
        rw (declared_upto-past book of n e) (below upto here)
    step upto below (Some batch) e true f =
        let over : is_newly book of n ≡ false = rw f refl in
        rw (declared_upto-next book of n batch e, over) (below upto f)
    step upto below (Some batch) e false f =
        let over : is_newly book of n ≡ true = rw (f, now) refl in
        let raised : version_of (state_at book (suc n)) of ≡ version_of (state_at book n) of + 1 = newly batch e f in
        let rises : version_of (state_at book m) of ≤ version_of (state_at book n) of =
        version_of-later book m n of legal upto in
        rw (declared_upto-next book of n batch e, over) (omega (arith, raised, rises))

    by : (m ≤ n → is_declared (state_at book n) of ≡ true → version_of (state_at book m) of < declared_upto book of n)
        → (m < suc n) ⊎ (suc n ≤ m)
        → version_of (state_at book m) of < declared_upto book of (suc n)
    by below (inl h) = step (omega arith) below (slice_get book.batches n) refl (is_declared (state_at book n) of) refl
    by below (inr h) =
        let same : m ≡ suc n = omega arith in
        absurd (both_ways (is_declared (state_at book m) of) out (rw same now))

-- where the version isn't below the number of the last declaration, the resource was declared
pub declared_after : (book : Book) (of : Resource) (m n : ℕ) → IsLegal book → m ≤ n
    → is_declared (state_at book n) of ≡ true
    → declared_upto book of n ≤ version_of (state_at book m) of → is_declared (state_at book m) of ≡ true
declared_after book of m n legal le now high = by (is_declared (state_at book m) of) refl
  where
    by : (b : Bool) → is_declared (state_at book m) of ≡ b → b ≡ true
    by true e = refl
    by false e =
        let below : version_of (state_at book m) of < declared_upto book of n =
        undeclared_below book of m n legal le now e in
        absurd (omega (arith, below, high))

-- of a resource that is declared now
pub declared_since : (book : Book) (of : Resource) (m : ℕ) → IsLegal book → m ≤ length book.batches
    → is_declared (rows_of book) of ≡ true
    → number_declared book of ≤ version_of (state_at book m) of → is_declared (state_at book m) of ≡ true
declared_since book of m legal le now high =
    declared_after book of m (length book.batches) legal
    le (ap (λ (rows : Rows). is_declared rows of) (state_at-all book) ∙ now)
    (rw (declared_upto-all book of) high)

-- the number of the last declaration isn't above the version
pub number_declared_below : (book : Book) (of : Resource) → IsLegal book
    → number_declared book of ≤ version_of (rows_of book) of
number_declared_below book of legal =
    rw (← declared_upto-all book of, ← state_at-all book) (declared_upto_below book of (length book.batches) legal)

-- ---- with more batches

-- what the first batches declared stays
pub declared_upto-extended : (earlier later : Book) (of : Resource) (n : ℕ) → Extends later earlier
    → n ≤ length earlier.batches
    → declared_upto later of n ≡ declared_upto earlier of n
declared_upto-extended earlier later of zero more le = refl
declared_upto-extended earlier later of (suc n) more le =
    by (declared_upto-extended earlier later of n more (omega arith)) (slice_get earlier.batches n) refl
  where
    before : state_at later n ≡ state_at earlier n
    before = state_at-extended earlier later n more (omega arith)

    behind : state_at later (suc n) ≡ state_at earlier (suc n)
    behind = state_at-extended earlier later (suc n) more le

    by : declared_upto later of n ≡ declared_upto earlier of n → (o : Option Accepted) → slice_get earlier.batches n ≡ o
        → declared_upto later of (suc n) ≡ declared_upto earlier of (suc n)
    by below None e = absurd (none_past earlier.batches n (omega arith) e)
      where
        none_past : (xs : List Accepted) (k : ℕ) → k < length xs → slice_get xs k ≡ None → ⊥
        none_past [] k less none = omega arith
        none_past (x ∷ xs) zero less none = cc
        none_past (x ∷ xs) (suc k) less none = none_past xs k (omega arith) none
    by below (Some batch) e =
        declared_upto-next later of n batch (rw more.batches (slice_get-extended earlier.batches more.more n batch e))
        ∙ (ap (λ (rows : Rows). cond (not (is_declared rows of) && is_declared (state_at later (suc n)) of)
        (version_of (state_at later (suc n)) of) (declared_upto later of n)) before
        ∙ (ap (λ (rows : Rows). cond (not (is_declared (state_at earlier n) of) && is_declared rows of)
        (version_of rows of) (declared_upto later of n)) behind
        ∙ (ap (cond (is_newly earlier of n) (version_of (state_at earlier (suc n)) of)) below
        ∙ sym (declared_upto-next earlier of n batch e))))

-- the number of the last declaration never falls
pub number_declared_rises : (earlier later : Book) (of : Resource) → IsLegal later → Extends later earlier
    → number_declared earlier of ≤ number_declared later of
number_declared_rises earlier later of legal more =
    let longer : length later.batches ≡ length more.more + length earlier.batches =
    ap (λ (batches : List Accepted). length batches) more.batches
    ∙ (length-append earlier.batches more.more ∙ omega arith) in
    rw (
      ← declared_upto-all later of,
      ← declared_upto-all earlier of,
      ← declared_upto-extended earlier later
          of (length earlier.batches) more (omega arith),
    )
    (declared_upto_rises later of (length more.more) (length earlier.batches) (length later.batches) legal longer)
