-- A base that moves on takes numbers away, and changes none of those that stay.
use Rattle.std.proofs.Common.{◌≡◌, refl, ap, sym, ◌∙◌, arith, suc, zero, inl, inr}
use Rattle.std.proofs.lemmas.Bool.{cases_lt}
use Rattle.std.proofs.lemmas.Grind.{flat_map-append}
use Rattle.std.proofs.lemmas.List.{drop-drop, drop-take, length-drop}
use Rattle.std.proofs.lemmas.List.Folds.{list_any-append}
use Rattle.std.specs.Prelude.{ℕ, ◌+◌, ◌-◌, ◌<◌, ◌≤◌, ◌⊎◌, max, Bool, true, false, cond, not, ◌&&◌, ◌||◌, List, [], ◌∷◌}
use Rattle.std.specs.Prelude.{length, take, drop, Option, Some, None, slice_get}
use Rattle.std.specs.BTreeMap.{is_at}
use Rattle.std.specs.List.{position_or_len}
use Rattle.alto_rows.specs.declared.key.Key.{Key}
use Rattle.alto_rows.specs.declared.resource.Resource.{Resource}
use Rattle.alto_rows.specs.declared.write.Write.{Write}
use Rattle.alto_rows.specs.Accepted.{Accepted}
use Rattle.alto_rows.specs.Order.{key_cmp}
use Rattle.alto_rows.specs.Rows.{Rows}
use Rattle.alto_rows.specs.Versions.{is_declared, version_of, window_of}
use Rattle.net_docs.specs.Differ.{DifferBy}
use Rattle.tips_graph.proofs.KeySetLemmas.{key_set-same}
use Rattle.tips_graph.specs.Edges as edges
use Rattle.tips_graph.specs.Keys.{key_set}
use Rattle.alto_book.specs.Book.{Book, state_at, rows_of, trimmed, writes_in}
use Rattle.alto_book.specs.Legal.{IsLegal}
use Rattle.alto_book.specs.NumberLaws.{TrimKeepsNumbers}
use Rattle.alto_book.specs.Numbers.{gives, batches_to, rows_at, touching, keys_between, number_declared, floor_of}
use Rattle.alto_book.specs.Numbers.{first_kept}
use Rattle.alto_book.proofs.BetweenLemmas.{batches_from, batches_parts}
use Rattle.alto_book.proofs.ChangeLemmas.{has}
use Rattle.alto_book.proofs.DeclaredLemmas.{declared_upto, declared_upto-all, declared_upto-next, declared_upto-past}
use Rattle.alto_book.proofs.DeclaredLemmas.{declared_upto_below, is_newly, declared_since}
use Rattle.alto_book.proofs.GivenLemmas.{touching-append}
use Rattle.alto_book.proofs.MapLemmas.{same_between, same_epoch, none_written_between}
use Rattle.alto_book.proofs.NumberLemmas.{version_of-later}
use Rattle.alto_book.proofs.PlaceLemmas.{HasPlace, IsReached, apart, batches_to-base, batches_to-given, place_now}
use Rattle.alto_book.proofs.PlaceLemmas.{position-given, reached, reached_in_order, version_of-given}
use Rattle.alto_book.proofs.StateLemmas.{good_state, state_at-all}
use Rattle.alto_book.proofs.TellLemmas.{here_lower}
use Rattle.alto_book.proofs.TrimLemmas.{state_at-trimmed, rows_of-trimmed, slice_get-drop}

-- ---- the first number that is kept

-- the number of the last declaration, of the batches past the new base and of all: it is one, or isn't above the base's
record DeclaresAlike (low newer older : ℕ) : Type 0 where
  above : newer ≤ older
  below : older ≤ max low newer

declared_upto-trimmed : (book : Book) (of : Resource) (n k : ℕ) → IsLegal book
    → DeclaresAlike (version_of (state_at book n) of) (declared_upto (trimmed book n) of k)
    (declared_upto book of (n + k))
declared_upto-trimmed book of n zero legal =
    let same : n + zero ≡ n = omega arith in
    let below : declared_upto book of n ≤ version_of (state_at book n) of = declared_upto_below book of n legal in
    rw same record { above = omega arith; below = omega (arith, below) }
declared_upto-trimmed book of n (suc k) legal =
    rw next (by (declared_upto-trimmed book of n k legal) (slice_get book.batches (n + k)) refl)
  where
    next : n + suc k ≡ suc (n + k)
    next = omega arith

    newly : is_newly (trimmed book n) of k ≡ is_newly book of (n + k)
    newly =
        ap (λ (rows : Rows). not (is_declared rows of) && is_declared (state_at (trimmed book n) (suc k)) of)
        (state_at-trimmed book n k)
        ∙ ap (λ (rows : Rows). not (is_declared (state_at book (n + k)) of) && is_declared rows of)
        (state_at-trimmed book n (suc k) ∙ ap (state_at book) next)

    reached_too : version_of (state_at (trimmed book n) (suc k)) of ≡ version_of (state_at book (suc (n + k))) of
    reached_too = ap (λ (rows : Rows). version_of rows of) (state_at-trimmed book n (suc k) ∙ ap (state_at book) next)

    either : (b : Bool) (low new old newer : ℕ) → DeclaresAlike low newer old
        → DeclaresAlike low (cond b new newer) (cond b new old)
    either true low new old newer h = record { above = omega arith; below = omega arith }
    either false low new old newer h = h

    by : DeclaresAlike (version_of (state_at book n) of) (declared_upto (trimmed book n) of k)
        (declared_upto book of (n + k))
        → (o : Option Accepted) → slice_get book.batches (n + k) ≡ o
        → DeclaresAlike (version_of (state_at book n) of) (declared_upto (trimmed book n) of (suc k))
        (declared_upto book of (suc (n + k)))
    by below None e = rw (
      declared_upto-past book of (n + k) e,
      declared_upto-past (trimmed book n) of
          k (slice_get-drop book.batches n k ∙ e),
    ) below
    by below (Some batch) e =
        rw (
          declared_upto-next book of (n + k) batch e,
          declared_upto-next (trimmed book n) of k
              batch (slice_get-drop book.batches n k ∙ e),
          newly,
          reached_too,
        )
        (either (is_newly book of (n + k)) (version_of (state_at book n) of)
        (version_of (state_at book (suc (n + k))) of) (declared_upto book of (n + k))
        (declared_upto (trimmed book n) of k) below)

-- of all batches
pub number_declared-trimmed : (book : Book) (of : Resource) (n : ℕ) → IsLegal book → n ≤ length book.batches
    → (number_declared (trimmed book n) of ≤ number_declared book of)
    × (number_declared book of ≤ max (version_of (state_at book n) of) (number_declared (trimmed book n) of))
number_declared-trimmed book of n legal le =
    let alike : DeclaresAlike (version_of (state_at book n) of) (declared_upto (trimmed book n) of rest)
    (declared_upto book of (n + rest)) = declared_upto-trimmed book of n rest legal in
    rw (← declared_upto-all book of, ← declared_upto-all (trimmed book n) of, whole) (alike.above, alike.below)
  where
    rest : ℕ
    rest = length (drop n book.batches)

    whole : length book.batches ≡ n + rest
    whole = omega (arith, length-drop n book.batches, le)

-- the lowest number that may be kept never falls
floor_rises : (book : Book) (of : Resource) (n : ℕ) → IsLegal book → n ≤ length book.batches
    → floor_of book of ≤ floor_of (trimmed book n) of
floor_rises book of n legal le =
    let rises : version_of (state_at book zero) of ≤ version_of (state_at book n) of =
    version_of-later book zero n of legal (omega arith) in
    omega (arith, rises, (number_declared-trimmed book of n legal le).1)

-- nor does the first that is kept
pub first_rises : (book : Book) (of : Resource) (n : ℕ) → IsLegal book → n ≤ length book.batches
    → first_kept book of ≤ first_kept (trimmed book n) of
first_rises book of n legal le =
    let version : version_of (rows_of (trimmed book n)) of ≡ version_of (rows_of book) of =
    ap (λ (rows : Rows). version_of rows of) (rows_of-trimmed book n) in
    let window : window_of (rows_of (trimmed book n)) ≡ window_of (rows_of book) =
    ap window_of (rows_of-trimmed book n) in
    omega (arith, version, window, floor_rises book of n legal le)

-- ---- the batches that lead to a number

-- the place of the first that passes, behind the first n, where none of these passes
position-drop : (test : Accepted → Bool) (xs : List Accepted) (n : ℕ) → n ≤ position_or_len test xs
    → n + position_or_len test (drop n xs) ≡ position_or_len test xs
position-drop test xs zero h = omega arith
position-drop test [] (suc n) h = absurd (omega (arith, h))
position-drop test (x ∷ xs) (suc n) h = by (test x) refl (λ g. position-drop test xs n g) h
  where
    by : (b : Bool) → test x ≡ b → (n ≤ position_or_len test xs
        → n + position_or_len test (drop n xs) ≡ position_or_len test xs)
        → suc n ≤ position_or_len test (x ∷ xs)
        → suc n + position_or_len test (drop n xs) ≡ position_or_len test (x ∷ xs)
    by true e below g = let none : position_or_len test (x ∷ xs) ≡ 0 = rw e refl in absurd (omega (arith, g, none))
    by false e below g =
        let one : position_or_len test (x ∷ xs) ≡ 1 + position_or_len test xs = rw e refl in
        let rest : n + position_or_len test (drop n xs) ≡ position_or_len test xs = below (omega (arith, g, one)) in
        omega (arith, one, rest)

-- as many lead to a number above the new base's as did, with those before the base
batches_to-trimmed : (book : Book) (of : Resource) (n number : ℕ) → IsLegal book
    → version_of (state_at book n) of < number → number ≤ version_of (rows_of book) of
    → n + batches_to (trimmed book n) of number ≡ batches_to book of number
batches_to-trimmed book of n number legal low high = by (cases_lt found.place n)
  where
    found : HasPlace book of number (length book.batches)
    found =
        let rises : version_of (state_at book zero) of ≤ version_of (state_at book n) of =
        version_of-later book zero n of legal (omega arith) in
        place_now book of number legal (omega (arith, rises, low)) high

    by : (found.place < n) ⊎ (n ≤ found.place) → n + batches_to (trimmed book n) of number ≡ batches_to book of number
    by (inl h) =
        let rises : version_of (state_at book (suc found.place)) of ≤ version_of (state_at book n) of =
        version_of-later book (suc found.place) n of legal (omega (arith, h)) in
        absurd (omega (arith, rises, low, version_of-given book of number found.place found.batch legal found.given))
    by (inr h) =
        let position : position_or_len (gives of number) book.batches ≡ found.place =
        position-given book of number found.place found.batch legal found.given in
        let rest : n + position_or_len (gives of number) (drop n book.batches)
        ≡ position_or_len (gives of number) book.batches =
        position-drop (gives of number) book.batches n (omega (arith, position, h)) in
        let here : batches_to (trimmed book n) of number ≡ position_or_len (gives of number) (drop n book.batches) + 1 =
        rw (apart (version_of (state_at book n) of) number low) refl in
        omega (arith, here, rest, position, batches_to-given book of number found.place found.batch legal found.given)

-- where the later book's number begins in the earlier
abbrev moved : Book → Resource → ℕ → ℕ → ℕ
moved book of n number = n + batches_to (trimmed book n) of number

-- what is known of a number that the later book keeps
record Moves (book : Book) (of : Resource) (n number : ℕ) : Type 0 where
  before : IsReached book of number
  behind : batches_to book of number ≤ moved book of n number
  within : moved book of n number ≤ length book.batches
  declared : (m : ℕ) → batches_to book of number ≤ m → m ≤ length book.batches → is_declared (state_at book m) of ≡ true
  none : (at : Key)
      → has at (touching of (writes_in (batches_from book (batches_to book of number) (moved book of n number))))
      ≡ false
  place : (moved book of n number ≡ n) ⊎ (moved book of n number ≡ batches_to book of number)

-- a key is among none
none_from : (book : Book) (of : Resource) (low high : ℕ) (at : Key) → IsLegal book → low ≡ high
    → low ≤ length book.batches
    → has at (touching of (writes_in (batches_from book low high))) ≡ false
none_from book of low high at legal same within =
    rw same (none_written_between book of high high at legal (omega arith) (omega (arith, same, within))
    (λ m le less. absurd (omega (arith, le, less))) refl)

moves : (book : Book) (of : Resource) (n number : ℕ) → IsLegal book → n ≤ length book.batches
    → is_declared (rows_of book) of ≡ true
    → first_kept (trimmed book n) of ≤ number → number ≤ version_of (rows_of book) of → Moves book of n number
moves book of n number legal le declared low high = by (cases_lt (version_of (state_at book n) of) number)
  where
    from : floor_of book of ≤ number
    from = omega (arith, floor_rises book of n legal le, low)

    before : IsReached book of number
    before = reached book of number legal (omega (arith, from)) high

    here : (m : ℕ) → batches_to book of number ≤ m → m ≤ length book.batches → is_declared (state_at book m) of ≡ true
    here m more within =
        let rises : version_of (state_at book (batches_to book of number)) of ≤ version_of (state_at book m) of =
        version_of-later book (batches_to book of number) m of legal more in
        declared_since book of m legal within declared (omega (arith, rises, before.version, from))

    by : (version_of (state_at book n) of < number) ⊎ (number ≤ version_of (state_at book n) of)
        → Moves book of n number
    by (inl h) =
        let same : moved book of n number ≡ batches_to book of number =
        batches_to-trimmed book of n number legal h high in
        record {
          before = before;
          behind = omega (arith, same);
          within = omega (arith, same, before.within);
          declared = here;
          none = λ at. none_from book of (batches_to book of number) (moved book of n number) at
              legal (sym same) before.within;
          place = inr same;
        }
    by (inr h) =
        let shown : version_of (state_at book n) of ≡ number = omega (arith, h, low) in
        let same : moved book of n number ≡ n = omega (arith, batches_to-base (trimmed book n) of number shown) in
        let upto : batches_to book of number ≤ n = first_before (cases_lt n (batches_to book of number)) shown in
        record {
          before = before;
          behind = omega (arith, same, upto);
          within = omega (arith, same, le);
          declared = here;
          none = λ at. rw same
              (none_written_between book of (batches_to book of number) n at legal upto before.within
              (λ m more less. here (suc m) (omega (arith, more)) (omega (arith, less, le)))
              (shown ∙ sym before.version));
          place = inl same;
        }
      where
        first_before : (n < batches_to book of number) ⊎ (batches_to book of number ≤ n)
            → version_of (state_at book n) of ≡ number → batches_to book of number ≤ n
        first_before (inr g) shown = g
        first_before (inl g) shown = absurd (omega (arith, before.lowest n g, shown))

-- ---- the keys between two numbers

-- the batches between two places of the later book
batches_from-trimmed : (book : Book) (n low high : ℕ)
    → drop low (take high (drop n book.batches)) ≡ batches_from book (n + low) (n + high)
batches_from-trimmed book n low high =
    ap (drop low) (sym (drop-take n high book.batches)) ∙ drop-drop low n (take (n + high) book.batches)

-- a key that is among those of some batches and of more
has-parts : (book : Book) (of : Resource) (low middle high : ℕ) (at : Key) → low ≤ middle → middle ≤ high
    → middle ≤ length book.batches
    → has at (touching of (writes_in (batches_from book low high)))
    ≡ (has at (touching of (writes_in (batches_from book low middle)))
    || has at (touching of (writes_in (batches_from book middle high))))
has-parts book of low middle high at le more within =
    ap (λ (batches : List Accepted). has at (touching of (writes_in batches)))
    (batches_parts book low middle high le more within)
    ∙ (ap (λ (writes : List Write). has at (touching of writes))
    (flat_map-append (λ (batch : Accepted). batch.writes) (batches_from book low middle)
    (batches_from book middle high))
    ∙ (ap (has at) (touching-append of (writes_in (batches_from book low middle))
    (writes_in (batches_from book middle high)))
    ∙ list_any-append (is_at (key_cmp at)) (touching of (writes_in (batches_from book low middle)))
    (touching of (writes_in (batches_from book middle high)))))

with_false : (b : Bool) → (b || false) ≡ b
with_false true = refl
with_false false = refl

-- the keys between two numbers are the same
keys_trimmed : (book : Book) (of : Resource) (n i j : ℕ) → IsLegal book → Moves book of n i → Moves book of n j → i ≤ j
    → keys_between (trimmed book n) of i j ≡ keys_between book of i j
keys_trimmed book of n i j legal first last le =
    ap (λ (batches : List Accepted). key_set (touching of (writes_in batches)))
    (batches_from-trimmed book n (batches_to (trimmed book n) of i) (batches_to (trimmed book n) of j))
    ∙ key_set-same (touching of (writes_in (batches_from book (moved book of n i) (moved book of n j))))
    (touching of (writes_in (batches_from book (batches_to book of i) (batches_to book of j)))) same
  where
    low : batches_to book of i ≤ batches_to book of j
    low = reached_in_order book of i j first.before last.before le

    ordered : (moved book of n i ≡ n) ⊎ (moved book of n i ≡ batches_to book of i)
        → moved book of n i ≤ moved book of n j
    ordered (inl base) = omega (arith, base)
    ordered (inr same) = omega (arith, same, low, last.behind)

    same : (at : Key) → has at (touching of (writes_in (batches_from book (moved book of n i) (moved book of n j))))
        ≡ has at (touching of (writes_in (batches_from book (batches_to book of i) (batches_to book of j))))
    same at =
        sym (has-parts book of (batches_to book of i) (moved book of n i) (moved book of n j) at
        first.behind (ordered first.place) first.within ∙ rw (first.none at) refl)
        ∙ (has-parts book of (batches_to book of i) (batches_to book of j) (moved book of n j) at low last.behind
        last.before.within
        ∙ rw (last.none at) (with_false
        (has at (touching of (writes_in (batches_from book (batches_to book of i) (batches_to book of j)))))))

-- ---- the law

pub trim_keeps_numbers : TrimKeepsNumbers
trim_keeps_numbers book n of legal le declared = record {
  first = first_rises book of n legal le;
  here = λ i j here.
      here_lower (first_kept book of) (first_kept (trimmed book n) of) (version_of (rows_of book) of) i
      j (first_rises book of n legal le)
      (ap (λ (last : ℕ). edges.edge_status (first_kept (trimmed book n) of) last i j) (sym version) ∙ here);
  rows = λ number low high.
      state_at-trimmed book n (batches_to (trimmed book n) of number)
      ∙ ap (state_at book) (batches_to-trimmed book of n number legal low (upto number high));
  base = λ number low shown. base_differs number
      shown (moves book of n number legal le declared low (upto number (base_within number shown)));
  keys = λ i j low more high.
      keys_trimmed book of n i j legal (moves book of n i legal le declared low (omega (arith, more, upto j high)))
      (moves book of n j legal le declared (omega (arith, low, more)) (upto j high)) more;
}
  where
    version : version_of (rows_of (trimmed book n)) of ≡ version_of (rows_of book) of
    version = ap (λ (rows : Rows). version_of rows of) (rows_of-trimmed book n)

    upto : (number : ℕ) → number ≤ version_of (rows_of (trimmed book n)) of → number ≤ version_of (rows_of book) of
    upto number high = omega (arith, high, version)

    base_within : (number : ℕ) → version_of (state_at book n) of ≡ number
        → number ≤ version_of (rows_of (trimmed book n)) of
    base_within number shown =
        let rises : version_of (state_at book n) of ≤ version_of (state_at book (length book.batches)) of =
        version_of-later book n (length book.batches) of legal le in
        let now : version_of (state_at book (length book.batches)) of ≡ version_of (rows_of book) of =
        ap (λ (rows : Rows). version_of rows of) (state_at-all book) in
        omega (arith, rises, now, version, shown)

    base_differs : (number : ℕ) → version_of (state_at book n) of ≡ number → Moves book of n number
        → DifferBy [] (rows_at book of number) (rows_at (trimmed book n) of number) of
    base_differs number shown it =
        rw (state_at-trimmed book n (batches_to (trimmed book n) of number)) record {
          good = good_state book (batches_to book of number) legal;
          good_behind = good_state book (moved book of n number) legal;
          epoch = same_epoch book (batches_to book of number) (moved book of n number) legal;
          same = λ at t none. same_between book of (batches_to book of number) (moved book of n number) at legal
              it.behind t (it.none at);
          before = it.declared (batches_to book of number) (omega arith) it.before.within;
          behind = it.declared (moved book of n number) it.behind it.within;
        }
