-- Ranges of a buffer.
use Rattle.std.proofs.Common.{◌≡◌, ℕ, ◌+◌, ◌-◌, ◌≤◌, min, List, ◌++◌, length, take, drop, slice_range, ap, sym, ◌∙◌}
use Rattle.std.proofs.Common.{append-nil, arith, ⊎_elim, length-take}
use Rattle.std.proofs.lemmas.Bool.{cases_lt}
use Rattle.std.proofs.Math.Seq.{take-add}
use Rattle.std.proofs.lemmas.List.{drop-take, drop-drop, drop-append-le, take_all, drop_all, take-append-drop}
use Rattle.std.proofs.lemmas.List.{take-take, length-drop}
use Rattle.std.proofs.lemmas.List.Edits.{take-paste}
use Rattle.std.specs.List.{copy_within}

-- the same range, as what is dropped from the range up to its end
range_split : (xs : List ℕ) (start end : ℕ) → start ≤ end → drop start (take end xs) ≡ slice_range xs start end
range_split xs start end h =
    let e : start + (end - start) ≡ end = omega arith in
    ap (λ n. drop start (take n xs)) (sym e) ∙ drop-take start (end - start) xs

-- a range without its first bytes
pub range_from : (xs : List ℕ) (start end n : ℕ) → n ≤ end - start
    → slice_range xs (start + n) end ≡ drop n (slice_range xs start end)
range_from xs start end n h =
    let e : n + (end - (start + n)) ≡ end - start = omega arith in
    sym (ap (λ m. drop n (take m (drop start xs))) (sym e)
    ∙ drop-take n (end - (start + n)) (drop start xs)
    ∙ ap (take (end - (start + n))) (drop-drop n start xs))

-- a range that was moved to the front
pub moved_front : (xs : List ℕ) (start end : ℕ) → start ≤ end → end ≤ length xs
    → take (end - start) (copy_within xs start end 0) ≡ slice_range xs start end
moved_front xs start end h w =
    let n = end - start in
    let same : n ≡ 0 + n = omega arith in
    ap (λ k. take k (copy_within xs start end 0)) same
    ∙ take-paste xs 0 (drop start xs) n (omega arith) (omega (arith, h, w, length-drop start xs))

-- a longer range from the first byte is a prefix and the rest
pub range_joined : (xs : List ℕ) (end k : ℕ) → slice_range xs 0 (end + k) ≡ take end xs ++ slice_range xs end (end + k)
range_joined xs end k =
    let e : end + k - end ≡ k = omega arith in
    let z : end + k - 0 ≡ end + k = omega arith in
    ap (λ n. take n xs) z ∙ take-add end k xs ∙ ap (λ n. take end xs ++ take n (drop end xs)) (sym e)

-- a range is no longer than its ends say
pub range_short : (xs : List ℕ) (start end : ℕ) → length (slice_range xs start end) ≤ end - start
range_short xs start end = simp length-take (omega arith)

-- what stands at the front after a move and a read behind it
pub refilled : (xs ys zs : List ℕ) (start end k : ℕ)
    → take (end - start) ys ≡ slice_range xs start end → take (end - start) zs ≡ take (end - start) ys
    → slice_range zs 0 (end - start + k) ≡ slice_range xs start end ++ slice_range zs (end - start) (end - start + k)
refilled xs ys zs start end k moved kept =
    range_joined zs (end - start) k
    ∙ ap (λ front. front ++ slice_range zs (end - start) (end - start + k)) (kept ∙ moved)

-- a range that goes on where the bytes before it stay
pub range_more : (old new : List ℕ) (start at k : ℕ) → start ≤ at → at + k ≤ length new → take at new ≡ take at old
    → slice_range new start (at + k) ≡ slice_range old start at ++ slice_range new at (at + k)
range_more old new start at k h w kept =
    let piece = slice_range new at (at + k) in
    let further : start ≤ at + k = omega arith in
    let inside : start ≤ length (take at new) = simp length-take (omega arith) in
    let zero : at + k - 0 ≡ at + k = omega arith in
    sym (range_split new start (at + k) further)
    ∙ ap (λ n. drop start (take n new)) (sym zero)
    ∙ ap (drop start) (range_joined new at k)
    ∙ drop-append-le start (take at new) piece inside
    ∙ ap (λ xs. drop start xs ++ piece) kept
    ∙ ap (λ xs. xs ++ piece) (range_split old start at h)

-- two lists with the same first n, where n is the length of the shorter: either followed by the other's rest
pub swap_rests : (xs ys : List ℕ) (n : ℕ) → n ≡ min (length xs) (length ys) → take n ys ≡ take n xs
    → xs ++ drop n ys ≡ ys ++ drop n xs
swap_rests xs ys n count front =
    ⊎_elim
    (λ lt. let all : n ≡ length xs = omega arith in
    let h : length xs ≤ n = omega arith in
    ap (λ a. a ++ drop n ys) (sym (take_all n xs h) ∙ sym front)
    ∙ take-append-drop n ys ∙ sym (append-nil ys)
    ∙ ap (λ a. ys ++ a) (sym (drop_all n xs h)))
    (λ ge. let h : length ys ≤ n = omega arith in
    ap (λ a. xs ++ a) (drop_all n ys h) ∙ append-nil xs
    ∙ sym (take-append-drop n xs)
    ∙ ap (λ a. a ++ drop n xs) (sym front ∙ take_all n ys h))
    (cases_lt (length xs) (length ys))

-- what is the same of a prefix is the same of a shorter one
pub take_shorter : (xs ys : List ℕ) (m n : ℕ) → m ≤ n → take n ys ≡ take n xs → take m ys ≡ take m xs
take_shorter xs ys m n h same = sym (take-take m n ys h) ∙ ap (take m) same ∙ take-take m n xs h

-- a range to the end
pub range_to_end : (xs : List ℕ) (start : ℕ) → slice_range xs start (length xs) ≡ drop start xs
range_to_end xs start =
    let h : length (drop start xs) ≤ length xs - start = simp length-drop (omega arith) in
    take_all (length xs - start) (drop start xs) h

-- what is left is a prefix of it and what is left behind that
pub given_front : (xs front : List ℕ) (given k : ℕ) → front ≡ take k (drop given xs)
    → drop given xs ≡ front ++ drop (given + k) xs
given_front xs front given k is =
    sym (take-append-drop k (drop given xs)) ∙ ap (λ a. a ++ drop k (drop given xs)) (sym is)
    ∙ ap (λ a. front ++ a) (drop-drop k given xs)
