-- Where a head stands, as more bytes come behind it.
use Rattle.std.proofs.Common.{◌≡◌, ℕ, ◌+◌, ◌<◌, ◌≤◌, false, List, [], ◌∷◌, ◌++◌, length, take, drop, ⊎_elim, inl, inr}
use Rattle.std.proofs.Common.{Option, ap, sym, ◌∙◌, arith, length-append, length-drop}
use Rattle.std.proofs.lemmas.Bool.{cases_lt, false≢true}
use Rattle.std.proofs.lemmas.List.{take-append-le, drop-append-le}
use Rattle.alto_http.specs.Head.{breaks_before, ends_in_empty_line, HasNoEnd, IsHeadEnd}
use Rattle.alto_http.specs.declared.fault.HeadFault.{HeadFault}
use Rattle.alto_http.specs.declared.fault.HeadFault.TheVariants.{TooLarge, Cut, ReadFault}
use Rattle.alto_http.specs.Intake.{ReadsAhead}
use Rattle.alto_http.specs.Receive.{StartFails, EndFails, HeadFails}
use Rattle.alto_http.specs.Splits.{IsHeadAt, IsTooLong, EndsInHead}
use Rattle.alto_http.proofs.Heads.{breaks_append, breaks_all, head_end_append}

-- the line breaks stay where they are as bytes are read ahead
pub breaks_now : (a b : List ℕ) (l m : Option (List ℕ)) (start : ℕ) → start ≡ breaks_before a → start < length a
    → ReadsAhead a l b m
    → (breaks_before b ≡ start) × (start < length b)
breaks_now a b l m start is lt reads =
    let short : breaks_before a < length a = omega arith in
    let e = length-append a reads.piece in
    let f = ap length reads.behind in
    (ap breaks_before reads.behind ∙ breaks_append a reads.piece short ∙ sym is, omega arith)

pub too_long : (bytes : List ℕ) (start : ℕ) → breaks_before bytes ≡ start → length bytes ≡ 16384
    → HasNoEnd (length (drop start bytes)) (drop start bytes) → IsTooLong bytes
too_long bytes start is full none = (
  omega arith,
  λ m h. ap (λ k. ends_in_empty_line (take m (drop k bytes))) is ∙ none m (omega (arith, length-drop start bytes, h)),
)

-- nothing stands behind the last byte, and no bytes hold no end
no_end_past : (bytes : List ℕ) (m : ℕ) → m ≤ length (drop (length bytes) bytes)
    → ends_in_empty_line (take m (drop (length bytes) bytes)) ≡ false
no_end_past bytes m h =
    let zero : m ≡ 0 = omega (arith, length-drop (length bytes) bytes) in
    ap (λ k. ends_in_empty_line (take k (drop (length bytes) bytes))) zero

pub ends_in_head : (bytes : List ℕ) (start : ℕ) → breaks_before bytes ≡ start → start < length bytes
    → length bytes < 16384
    → HasNoEnd (length (drop start bytes)) (drop start bytes) → EndsInHead bytes
ends_in_head bytes start is lt short none = (
  short,
  omega arith,
  λ m h. ap (λ k. ends_in_empty_line (take m (drop k bytes))) is ∙ none m (rw is at h),
)

-- where no head has begun, there is none
pub start_fails : (fault : HeadFault) (ahead : List ℕ) (left : Option (List ℕ)) → StartFails fault ahead
    → HeadFails fault ahead left
start_fails TooLarge ahead left fails = too_long ahead (length ahead) fails.0 fails.1 (λ m h. no_end_past ahead m h)
start_fails ReadFault ahead left fails = inl fails
start_fails fault ahead left fails = absurd fails

-- where a head has begun and has no end, there is none
pub end_fails : (fault : HeadFault) (start : ℕ) (ahead : List ℕ) (left : Option (List ℕ)) → breaks_before ahead ≡ start
    → start < length ahead
    → EndFails fault start ahead left → HeadFails fault ahead left
end_fails TooLarge start ahead left is lt fails = too_long ahead start is fails.1 fails.0
end_fails Cut start ahead left is lt fails = (ends_in_head ahead start is lt fails.1 fails.0, fails.2)
end_fails ReadFault start ahead left is lt fails = inr (inl (ends_in_head ahead start is lt fails.1 fails.0))
end_fails fault start ahead left is lt fails = absurd fails

-- a head that was found stands there whatever follows
pub head_at_append : (bytes more : List ℕ) (start size : ℕ) → start < length bytes → IsHeadAt bytes start size
    → IsHeadAt (bytes ++ more) start size
head_at_append bytes more start size lt at =
    let h : start ≤ length bytes = omega arith in
    let short : breaks_before bytes < length bytes = omega (arith, at.behind_breaks) in
    record {
      behind_breaks = at.behind_breaks ∙ sym (breaks_append bytes more short);
      ends = rw (drop-append-le start bytes more h) (head_end_append (drop start bytes) more size at.ends);
      within = at.within;
    }

-- a head has some bytes
head_some : (bytes : List ℕ) (n : ℕ) → IsHeadEnd bytes n → 0 < length bytes
head_some [] n is =
    let zero : n ≡ 0 = omega (arith, is.within) in
    absurd (false≢true (rw zero at is.ends))
head_some (b ∷ bytes) n is = omega arith

-- so some bytes stand behind the line breaks
pub head_at_some : (bytes : List ℕ) (start size : ℕ) → IsHeadAt bytes start size → start < length bytes
head_at_some bytes start size at =
    omega (arith, length-drop start bytes, head_some (drop start bytes) size at.ends)

-- the bytes of a head are the same whatever follows
pub head_bytes_append : (bytes more : List ℕ) (start size : ℕ) → IsHeadAt bytes start size
    → take size (drop start (bytes ++ more)) ≡ take size (drop start bytes)
head_bytes_append bytes more start size at =
    let h : start ≤ length bytes = omega (arith, head_at_some bytes start size at) in
    ap (take size) (drop-append-le start bytes more h) ∙ take-append-le size (drop start bytes) more at.ends.within

-- what is behind a head, and then what follows
pub behind_head_append : (bytes more : List ℕ) (start size : ℕ) → IsHeadAt bytes start size
    → drop (start + size) (bytes ++ more) ≡ drop (start + size) bytes ++ more
behind_head_append bytes more start size at =
    drop-append-le (start + size) bytes
    more (omega (arith, head_at_some bytes start size at, length-drop start bytes, at.ends.within))

-- too many bytes without an end stay too many
pub too_long_append : (bytes more : List ℕ) → IsTooLong bytes → IsTooLong (bytes ++ more)
too_long_append bytes more long =
    let e = length-append bytes more in
    ⊎_elim
    (λ lt. let same = breaks_append bytes more lt in
    let h : breaks_before bytes ≤ length bytes = omega arith in (
      omega (arith, long.0),
      λ m le. ap (λ k. ends_in_empty_line (take m (drop k (bytes ++ more)))) same
          ∙ ap (λ xs. ends_in_empty_line (take m xs)) (drop-append-le (breaks_before bytes) bytes more h)
          ∙ ap ends_in_empty_line (take-append-le m (drop (breaks_before bytes) bytes) more
          (omega (arith, length-drop (breaks_before bytes) bytes, long.0, same, le)))
          ∙ long.1 m (omega (arith, same, le)),
    ))
    (λ ge. (
      omega (arith, long.0),
      λ m le. let zero : m ≡ 0 = omega (arith, le, long.0, ge, breaks_all bytes more ge) in
          ap (λ k. ends_in_empty_line (take k (drop (breaks_before (bytes ++ more)) (bytes ++ more)))) zero,
    ))
    (cases_lt (breaks_before bytes) (length bytes))
