-- Bytes begin with one request at most, or end unambiguously, and split unambiguously.
use Rattle.std.proofs.Common.{◌≡◌, ℕ, ◌+◌, ◌-◌, ◌≤◌, List, [], ◌∷◌, ◌++◌, length, take, drop, Ok, Err, refl, ap, sym}
use Rattle.std.proofs.Common.{subst, ◌∙◌, inl, inr, ⊎_elim, append_assoc, arith, length-append}
use Rattle.std.proofs.lemmas.Bool.{cases_order, false≢true}
use Rattle.std.proofs.lemmas.List.{take-append-drop}
use Rattle.httparse.proofs.GrammarLemmas.{request_unique}
use Rattle.alto_http.specs.declared.fault.HeadFault.{HeadFault}
use Rattle.alto_http.specs.Head.{breaks_before, HasNoEnd, IsHeadEnd}
use Rattle.alto_http.specs.Request.{RequestData, Passes, FailsBy, request_of, length_after}
use Rattle.alto_http.specs.Splits.{IsHeadAt, IsBlank, IsTooLong, EndsInHead, EndsInside, IsRefused, Begins, clean}
use Rattle.alto_http.specs.Splits.{closed, cut, refused, Splits}
use Rattle.alto_http.specs.Laws.{BeginIsOne, BeginIsNoEnd, BeginIsWhole, EndIsOne, SplitIsOne}
use Rattle.alto_http.proofs.Places.{head_at_some}

-- ---- the place of a head

-- a head has an end, so it isn't among bytes that hold none
end_is_there : (bytes : List ℕ) (size n : ℕ) → IsHeadEnd bytes size → size ≤ n → HasNoEnd n bytes → ⊥
end_is_there bytes size n is le none = false≢true (sym (none size le) ∙ is.ends)

size_is_one : (bytes : List ℕ) (n m : ℕ) → IsHeadEnd bytes n → IsHeadEnd bytes m → n ≡ m
size_is_one bytes n m is other =
    ⊎_elim (λ e. e)
    (λ apart. ⊎_elim
    (λ lt. absurd (false≢true (sym (other.first n lt) ∙ is.ends)))
    (λ gt. absurd (false≢true (sym (is.first m gt) ∙ other.ends)))
    apart)
    (cases_order n m)

-- the bytes of the head that stands in front
place_is_one : (bytes : List ℕ) (start size start' size' : ℕ) → IsHeadAt bytes start size → IsHeadAt bytes start' size'
    → (start ≡ start') × (size ≡ size')
place_is_one bytes start size start' size' at at' =
    let same : start ≡ start' = at.behind_breaks ∙ sym at'.behind_breaks in
    let P : ℕ → Type 0 = λ k. IsHeadEnd (drop k bytes) size' in
    (same, size_is_one (drop start bytes) size size' at.ends (subst P (sym same) at'.ends))

-- a head stands among no bytes that are too long for one
head_not_long : (bytes : List ℕ) (start size : ℕ) → IsHeadAt bytes start size → IsTooLong bytes → ⊥
head_not_long bytes start size at long =
    let P : ℕ → Type 0 = λ k. IsHeadEnd (drop k bytes) size in
    end_is_there (drop (breaks_before bytes) bytes) size (16384 - breaks_before bytes)
    (subst P at.behind_breaks at.ends)
    (omega (arith, at.within, at.behind_breaks)) long.1

head_not_cut : (bytes : List ℕ) (start size : ℕ) → IsHeadAt bytes start size → EndsInHead bytes → ⊥
head_not_cut bytes start size at ends =
    let P : ℕ → Type 0 = λ k. IsHeadEnd (drop k bytes) size in
    let here : IsHeadEnd (drop (breaks_before bytes) bytes) size = subst P at.behind_breaks at.ends in
    end_is_there (drop (breaks_before bytes) bytes) size (length (drop (breaks_before bytes) bytes)) here
    here.within ends.2

head_not_blank : (bytes : List ℕ) (start size : ℕ) → IsHeadAt bytes start size → IsBlank bytes → ⊥
head_not_blank bytes start size at blank =
    absurd (omega (arith, head_at_some bytes start size at, at.behind_breaks, blank.0))

-- ---- what a head says

passes_one : (head : List ℕ) (one other : RequestData) (n m : ℕ) → Passes head one n → Passes head other m
    → (one ≡ other) × (n ≡ m)
passes_one head one other n m a b =
    let same = (request_unique head a.0 b.0 a.1 b.1 a.2 b.2).0 in
    let sized : Ok n ≡ Ok m = sym a.5 ∙ ap length_after same ∙ b.5 in
    (a.4 ∙ ap request_of same ∙ sym b.4, cc)

passes_not_fails : (head : List ℕ) (request : RequestData) (n : ℕ) (fault : HeadFault) → Passes head request n
    → FailsBy head fault → ⊥
passes_not_fails head request n fault a fails =
    ⊎_elim (λ f. absurd (omega (arith, f.0, a.3)))
    (λ other. ⊎_elim (λ f. f.1 a.0 a.1 a.2)
    (λ f. let same = (request_unique head a.0 f.1.0 a.1 f.1.1 a.2 f.1.2).0 in
    let clash : Ok n ≡ Err fault = sym a.5 ∙ ap length_after same ∙ f.1.3 in cc)
    other)
    fails

fault_one : (head : List ℕ) (one other : HeadFault) → FailsBy head one → FailsBy head other → one ≡ other
fault_one head one other (inl a) (inl b) = a.1 ∙ sym b.1
fault_one head one other (inl a) (inr (inl b)) = absurd (omega (arith, a.0, b.0))
fault_one head one other (inl a) (inr (inr b)) = absurd (omega (arith, a.0, b.0))
fault_one head one other (inr (inl a)) (inl b) = absurd (omega (arith, a.0, b.0))
fault_one head one other (inr (inl a)) (inr (inl b)) = a.2 ∙ sym b.2
fault_one head one other (inr (inl a)) (inr (inr b)) = absurd (a.1 b.1.0 b.1.1 b.1.2)
fault_one head one other (inr (inr a)) (inl b) = absurd (omega (arith, a.0, b.0))
fault_one head one other (inr (inr a)) (inr (inl b)) = absurd (b.1 a.1.0 a.1.1 a.1.2)
fault_one head one other (inr (inr a)) (inr (inr b)) =
    let same = (request_unique head a.1.0 b.1.0 a.1.1 b.1.1 a.1.2 b.1.2).0 in
    let faults : Err one ≡ Err other = sym a.1.3 ∙ ap length_after same ∙ b.1.3 in
    cc

-- ---- what bytes begin with

-- two prefixes of one length are one, and leave one rest
cut_one : (a b r s : List ℕ) → length a ≡ length b → a ++ r ≡ b ++ s → (a ≡ b) × (r ≡ s)
cut_one [] [] r s long whole = (refl, whole)
cut_one [] (y ∷ b) r s long whole = absurd (omega (arith, long))
cut_one (x ∷ a) [] r s long whole = absurd (omega (arith, long))
cut_one (x ∷ a) (y ∷ b) r s long whole =
    let rest : a ++ r ≡ b ++ s = cc in
    let first : x ≡ y = cc in
    let cut = cut_one a b r s (omega (arith, long)) rest in
    (cc (cut.0, first), cut.1)

-- what is said of the bytes of a head, at another place of it
at_place : (P : List ℕ → Type 0) (bytes : List ℕ) (start size start' size' : ℕ) → IsHeadAt bytes start size
    → IsHeadAt bytes start' size'
    → P (take size' (drop start' bytes)) → P (take size (drop start bytes))
at_place P bytes start size start' size' at at' said =
    let place = place_is_one bytes start size start' size' at at' in
    let same : take size' (drop start' bytes) ≡ take size (drop start bytes) =
    ap (λ n. take n (drop start' bytes)) (sym place.1) ∙ ap (λ k. take size (drop k bytes)) (sym place.0) in
    subst P same said

-- the bytes behind a head, at another place of it
behind_one : (bytes : List ℕ) (start size start' size' : ℕ) → IsHeadAt bytes start size → IsHeadAt bytes start' size'
    → drop (start + size) bytes ≡ drop (start' + size') bytes
behind_one bytes start size start' size' at at' =
    let place = place_is_one bytes start size start' size' at at' in
    ap (λ k. drop (k + size) bytes) place.0 ∙ ap (λ n. drop (start' + n) bytes) place.1

bare : RequestData → RequestData
bare request = record request { body = [] }

pub begin_is_one : BeginIsOne
unfolding bare
begin_is_one bytes one other rest remainder a b =
    let same = passes_one (take a.size (drop a.start bytes)) (bare one) (bare other) (length one.body)
    (length other.body) a.passes
    (at_place (λ head. Passes head (bare other) (length other.body)) bytes a.start a.size b.start b.size a.head
    b.head b.passes) in
    let behind : one.body ++ rest ≡ other.body ++ remainder =
    sym a.body ∙ behind_one bytes a.start a.size b.start b.size a.head b.head ∙ b.body in
    let bodies = cut_one one.body other.body rest remainder same.1 behind in
    let with_body : RequestData → RequestData = λ r. record r { body = one.body } in
    let with_head : List ℕ → RequestData = λ body. record other { body = body } in
    (ap with_body same.0 ∙ ap with_head bodies.0, bodies.1)

pub begin_is_whole : BeginIsWhole
begin_is_whole bytes request rest a =
    let n = a.start + a.size in
    let parts = ap (λ behind. take n bytes ++ behind) a.body in (
      a.start,
      a.size,
      a.head,
      sym (take-append-drop n bytes) ∙ parts
          ∙ sym (append_assoc (take n bytes) request.body rest),
    )

-- ---- what bytes end in

body_not_cut : (bytes : List ℕ) (request : RequestData) (rest : List ℕ) → Begins bytes request rest
    → EndsInside bytes → ⊥
unfolding bare
body_not_cut bytes request rest a (inl head) = head_not_cut bytes a.start a.size a.head head
body_not_cut bytes request rest a (inr c) =
    let same = passes_one (take a.size (drop a.start bytes)) (bare request) c.2 (length request.body) c.3 a.passes
    (at_place (λ head. Passes head c.2 c.3) bytes a.start a.size c.0 c.1 a.head c.4 c.5) in
    let behind = ap length (sym a.body ∙ behind_one bytes a.start a.size c.0 c.1 a.head c.4) in
    absurd (omega (arith, same.1, behind, length-append request.body rest, c.6))

begin_not_refused : (bytes : List ℕ) (request : RequestData) (rest : List ℕ) (fault : HeadFault)
    → Begins bytes request rest → IsRefused bytes fault → ⊥
unfolding bare
begin_not_refused bytes request rest fault a (inl f) = head_not_long bytes a.start a.size a.head f.0
begin_not_refused bytes request rest fault a (inr f) =
    passes_not_fails (take a.size (drop a.start bytes)) (bare request) (length request.body) fault a.passes
    (at_place (λ head. FailsBy head fault) bytes a.start a.size f.0 f.1 a.head f.2 f.3)

pub begin_is_no_end : BeginIsNoEnd
begin_is_no_end bytes request rest clean a ends = head_not_blank bytes a.start a.size a.head ends
begin_is_no_end bytes request rest closed a ends = ends
begin_is_no_end bytes request rest cut a ends = body_not_cut bytes request rest a ends
begin_is_no_end bytes request rest (refused fault) a ends = begin_not_refused bytes request rest fault a ends

blank_not_cut : (bytes : List ℕ) → IsBlank bytes → EndsInside bytes → ⊥
blank_not_cut bytes blank (inl c) = absurd (omega (arith, blank.0, c.1))
blank_not_cut bytes blank (inr c) = head_not_blank bytes c.0 c.1 c.4 blank

blank_not_refused : (bytes : List ℕ) (fault : HeadFault) → IsBlank bytes → IsRefused bytes fault → ⊥
blank_not_refused bytes fault blank (inl f) = absurd (omega (arith, blank.1, f.0.0))
blank_not_refused bytes fault blank (inr f) = head_not_blank bytes f.0 f.1 f.2 blank

cut_not_refused : (bytes : List ℕ) (fault : HeadFault) → EndsInside bytes → IsRefused bytes fault → ⊥
cut_not_refused bytes fault (inl c) (inl f) = absurd (omega (arith, c.0, f.0.0))
cut_not_refused bytes fault (inl c) (inr f) = head_not_cut bytes f.0 f.1 f.2 c
cut_not_refused bytes fault (inr c) (inl f) = head_not_long bytes c.0 c.1 c.4 f.0
cut_not_refused bytes fault (inr c) (inr f) =
    passes_not_fails (take c.1 (drop c.0 bytes)) c.2 c.3 fault c.5
    (at_place (λ head. FailsBy head fault) bytes c.0 c.1 f.0 f.1 c.4 f.2 f.3)

refusal_one : (bytes : List ℕ) (one other : HeadFault) → IsRefused bytes one → IsRefused bytes other → one ≡ other
refusal_one bytes one other (inl f) (inl g) = f.1 ∙ sym g.1
refusal_one bytes one other (inl f) (inr g) = absurd (head_not_long bytes g.0 g.1 g.2 f.0)
refusal_one bytes one other (inr f) (inl g) = absurd (head_not_long bytes f.0 f.1 f.2 g.0)
refusal_one bytes one other (inr f) (inr g) =
    fault_one (take f.1 (drop f.0 bytes)) one other f.3
    (at_place (λ head. FailsBy head other) bytes f.0 f.1 g.0 g.1 f.2 g.2 g.3)

pub end_is_one : EndIsOne
end_is_one bytes clean clean a b = refl
end_is_one bytes clean closed a b = absurd b
end_is_one bytes clean cut a b = absurd (blank_not_cut bytes a b)
end_is_one bytes clean (refused fault) a b = absurd (blank_not_refused bytes fault a b)
end_is_one bytes closed other a b = absurd a
end_is_one bytes cut clean a b = absurd (blank_not_cut bytes b a)
end_is_one bytes cut closed a b = absurd b
end_is_one bytes cut cut a b = refl
end_is_one bytes cut (refused fault) a b = absurd (cut_not_refused bytes fault a b)
end_is_one bytes (refused fault) clean a b = absurd (blank_not_refused bytes fault b a)
end_is_one bytes (refused fault) closed a b = absurd b
end_is_one bytes (refused fault) cut a b = absurd (cut_not_refused bytes fault b a)
end_is_one bytes (refused fault) (refused other) a b = ap refused (refusal_one bytes fault other a b)

-- ---- how bytes split

pub split_is_one : SplitIsOne
split_is_one bytes [] [] ending other a b = (refl, end_is_one bytes ending other a b)
split_is_one bytes [] (request ∷ others) ending other a b = absurd (begin_is_no_end bytes request b.0 ending b.1 a)
split_is_one bytes (request ∷ requests) [] ending other a b = absurd (begin_is_no_end bytes request a.0 other a.1 b)
split_is_one bytes (request ∷ requests) (second ∷ others) ending other a b =
    let same = begin_is_one bytes request second a.0 b.0 a.1 b.1 in
    let close = ap (λ r. r.close) same.0 in
    ⊎_elim
    (λ last. ⊎_elim
    (λ last'. (cc, cc))
    (λ more'. absurd (false≢true (sym more'.0 ∙ sym close ∙ last.0)))
    b.2)
    (λ more. ⊎_elim
    (λ last'. absurd (false≢true (sym more.0 ∙ close ∙ last'.0)))
    (λ more'. let rests = split_is_one a.0 requests others ending other
    more.1 (subst (λ rest. Splits rest others other) (sym same.1) more'.1) in
    (cc (same.0, rests.0), rests.1))
    b.2)
    a.2
