-- The end of a head, as more bytes are looked at and as more come.
use Rattle.std.proofs.Common.{◌≡◌, ℕ, ◌+◌, ◌-◌, ◌<◌, ◌≤◌, Bool, true, false, refl, eqb, eq-eqb, eqb-true}
use Rattle.std.proofs.Common.{List, [], ◌∷◌, ◌++◌, length, take, drop, get_or, ap, sym}
use Rattle.std.proofs.Common.{◌∙◌, arith, tests, ⊎_elim, length-take, length-append}
use Rattle.std.proofs.lemmas.Bool.{and_parts, cases_lt, cond-true, cond-false, false≢true}
use Rattle.std.proofs.lemmas.List.Folds.{prefix_len-append}
use Rattle.std.proofs.lemmas.List.Sums.{prefix_len-le-length}
use Rattle.std.proofs.lemmas.Grind.{take_at_read}
use Rattle.std.proofs.lemmas.List.{drop-append-le, take-append-le, take-append-drop, get_or-drop, length-drop}
use Rattle.memchr.specs.Find.{Nowhere, NoneBefore, Passes, is_byte}
use Rattle.std.specs.Cmp.Lexicographic.{pointwise}
use Rattle.std.specs.List.{ends_with}
use Rattle.std.specs.Prelude.{nat_eq}
use Rattle.httparse.specs.Ascii.{line_feed, carriage_return}
use Rattle.alto_http.specs.Head.{is_break, breaks_before, ends_in_empty_line, HasNoEnd, IsHeadEnd}

-- one prefix more is looked at
pub no_end_more : (bytes : List ℕ) (n : ℕ) → HasNoEnd n bytes → ends_in_empty_line (take (n + 1) bytes) ≡ false
    → HasNoEnd (n + 1) bytes
no_end_more bytes n before here m h =
    ⊎_elim (λ lt. before m (omega arith))
    (λ ge. let e : m ≡ n + 1 = omega arith in ap (λ k. ends_in_empty_line (take k bytes)) e ∙ here)
    (cases_lt m (n + 1))

-- of texts that are the same byte by byte the last bytes are the same
last_same : (needle : List ℕ) (last : ℕ) (xs : List ℕ) (b : ℕ)
    → pointwise nat_eq (needle ++ last ∷ []) (xs ++ b ∷ []) ≡ true → nat_eq last b ≡ true
last_same [] last [] b same = (and_parts (nat_eq last b) true same).0
last_same [] last (x ∷ []) b same = absurd (false≢true (and_parts (nat_eq last x) false same).1)
last_same [] last (x ∷ y ∷ xs) b same = absurd (false≢true (and_parts (nat_eq last x) false same).1)
last_same (n ∷ []) last [] b same = absurd (false≢true (and_parts (nat_eq n b) false same).1)
last_same (n ∷ m ∷ needle) last [] b same = absurd (false≢true (and_parts (nat_eq n b) false same).1)
last_same (n ∷ needle) last (x ∷ xs) b same =
    last_same needle last xs b (and_parts (nat_eq n x) (pointwise nat_eq (needle ++ last ∷ []) (xs ++ b ∷ [])) same).1

-- bytes that end with a text end with its last byte
ends_same : (a : List ℕ) (b : ℕ) (needle : List ℕ) (last : ℕ)
    → ends_with nat_eq (a ++ b ∷ []) (needle ++ last ∷ []) ≡ true → nat_eq last b ≡ true
ends_same a b needle last ends =
    let n = length (a ++ b ∷ []) - length (needle ++ last ∷ []) in
    let short : n ≤ length a = omega (arith, length-append a (b ∷ []), length-append needle (last ∷ [])) in
    last_same needle last (drop n a) b
    (ap (pointwise nat_eq (needle ++ last ∷ [])) (sym (drop-append-le n a (b ∷ []) short)) ∙ ends)

-- bytes that don't end with a line feed don't end in an empty line
pub no_end_here : (a : List ℕ) (b : ℕ) → nat_eq line_feed b ≡ false → ends_in_empty_line (a ++ b ∷ []) ≡ false
no_end_here a b other =
    rw (no (line_feed ∷ []), no (line_feed ∷ carriage_return ∷ [])) refl
  where
    no : (needle : List ℕ) → ends_with nat_eq (a ++ b ∷ []) (needle ++ line_feed ∷ []) ≡ false
    no needle = by (ends_with nat_eq (a ++ b ∷ []) (needle ++ line_feed ∷ [])) refl
      where
        by : (e : Bool) → ends_with nat_eq (a ++ b ∷ []) (needle ++ line_feed ∷ []) ≡ e
            → ends_with nat_eq (a ++ b ∷ []) (needle ++ line_feed ∷ []) ≡ false
        by true ends =
            absurd (false≢true (sym other ∙ ends_same a b needle line_feed ends))
        by false ends = ends

-- numbers that differ are told apart
pub apart : (a b : ℕ) → (a ≡ b → ⊥) → nat_eq a b ≡ false
apart a b differ = by (nat_eq a b) refl
  where
    by : (e : Bool) → nat_eq a b ≡ e → nat_eq a b ≡ false
    by true same = absurd (differ (eqb-true a b same))
    by false other = other

-- bytes up to one that is no line feed don't end in an empty line
pub no_end_at : (bytes : List ℕ) (at : ℕ) → at < length bytes → (get_or bytes at 0 ≡ line_feed → ⊥)
    → ends_in_empty_line (take (at + 1) bytes) ≡ false
no_end_at bytes at within other =
    ap ends_in_empty_line (take_at_read bytes at 0 within).1
    ∙ no_end_here (take at bytes) (get_or bytes at 0) (apart line_feed (get_or bytes at 0) (λ same. other (sym same)))

-- where no line feed follows for some bytes, no head ends there
no_end_until : (bytes rest : List ℕ) (from k : ℕ) → rest ≡ drop from bytes → from + k ≤ length bytes
    → HasNoEnd from bytes → Nowhere (Passes (is_byte line_feed) rest) 0 k → HasNoEnd (from + k) bytes
no_end_until bytes rest from k is within before none m le =
    ⊎_elim
    (λ lt. let j = m - 1 - from in
    let e : m ≡ from + j + 1 = omega (arith, lt) in
    let there : from + j < length bytes = omega (arith, lt, le, within) in
    let early : j < k = omega (arith, lt, le) in
    let read : get_or rest j 0 ≡ get_or bytes (from + j) 0 = ap (λ xs. get_or xs j 0) is ∙ get_or-drop from bytes j 0 in
    ap (λ n. ends_in_empty_line (take n bytes)) e
    ∙ no_end_at bytes (from + j) there (λ same. none j (omega arith) early (eq-eqb _ _ (read ∙ same))))
    (λ ge. before m ge)
    (cases_lt from m)

-- up to the next line feed no head ends
pub no_end_to_feed : (bytes rest : List ℕ) (from k : ℕ) → rest ≡ drop from bytes → from ≤ length bytes
    → HasNoEnd from bytes → NoneBefore (Passes (is_byte line_feed) rest) 0 (length rest) k
    → (from ≤ from + k) × (from + k < length bytes) × HasNoEnd (from + k) bytes
no_end_to_feed bytes rest from k is within before first =
    let long : length rest ≡ length bytes - from = ap length is ∙ length-drop from bytes in (
      omega arith,
      omega (arith, long, first.high, within),
      no_end_until bytes rest from k is (omega (arith, long, first.high, within)) before first.before,
    )

-- where no line feed follows, no head ends
pub no_end_without_feed : (bytes rest : List ℕ) (from : ℕ) → rest ≡ drop from bytes → from ≤ length bytes
    → HasNoEnd from bytes → Nowhere (Passes (is_byte line_feed) rest) 0 (length rest)
    → HasNoEnd (length bytes) bytes
no_end_without_feed bytes rest from is within before none =
    let long : length rest ≡ length bytes - from = ap length is ∙ length-drop from bytes in
    let all : from + length rest ≡ length bytes = omega (arith, long, within) in
    let until : HasNoEnd (from + length rest) bytes =
    no_end_until bytes rest from (length rest) is (omega (arith, all)) before none in
    λ m le. until m (omega (arith, all, le))

-- line breaks behind a prefix that is all line breaks
pub breaks_behind : (bytes : List ℕ) (n : ℕ) → n ≤ length bytes → breaks_before (take n bytes) ≡ n
    → n + breaks_before (drop n bytes) ≡ breaks_before bytes
breaks_behind bytes n h front =
    let long : length (take n bytes) ≡ n = simp length-take (omega arith) in
    let whole : eqb (breaks_before (take n bytes)) (length (take n bytes)) ≡ true = eq-eqb _ _ (front ∙ sym long) in
    sym (ap breaks_before (sym (take-append-drop n bytes))
    ∙ prefix_len-append is_break (take n bytes) (drop n bytes)
    ∙ cond-true _ _ _ whole
    ∙ ap (λ k. k + breaks_before (drop n bytes)) long)

lt_eqb : (a b : ℕ) → a < b → eqb a b ≡ false
lt_eqb a b lt = grind (arith, tests)

-- line breaks with another byte behind them are the same before more bytes
pub breaks_append : (bytes more : List ℕ) → breaks_before bytes < length bytes
    → breaks_before (bytes ++ more) ≡ breaks_before bytes
breaks_append bytes more short =
    prefix_len-append is_break bytes more ∙ cond-false _ _ _ (lt_eqb (breaks_before bytes) (length bytes) short)

-- the end of a head stays where it is, whatever follows
pub head_end_append : (bytes more : List ℕ) (n : ℕ) → IsHeadEnd bytes n → IsHeadEnd (bytes ++ more) n
head_end_append bytes more n is = record {
  within = omega (arith, length-append bytes more, is.within);
  ends = rw (take-append-le n bytes more is.within) is.ends;
  first = λ m lt. (let h : m ≤ length bytes = omega (arith, is.within) in
      ap ends_in_empty_line (take-append-le m bytes more h)) ∙ is.first m lt;
}

-- where all bytes are line breaks, at least as many stand before whatever follows
pub breaks_all : (bytes more : List ℕ) → length bytes ≤ breaks_before bytes
    → length bytes ≤ breaks_before (bytes ++ more)
breaks_all bytes more all =
    let whole : eqb (breaks_before bytes) (length bytes) ≡ true =
    eq-eqb _ _ (omega (arith, prefix_len-le-length is_break bytes, all)) in
    rw (prefix_len-append is_break bytes more ∙ cond-true _ _ _ whole) (omega arith)
