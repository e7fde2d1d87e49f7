-- A book whose base moves on has the same rows, number and receipts, and stays legal.
use Rattle.std.proofs.Common.{◌≡◌, refl, ap, sym, ◌∙◌, arith, suc, zero}
use Rattle.std.proofs.Math.Seq.{take-add}
use Rattle.std.proofs.lemmas.Grind.{flat_map-append}
use Rattle.std.proofs.lemmas.List.{append_assoc, length-append, length-drop, length-map, length-take-le, map-append}
use Rattle.std.proofs.lemmas.List.{take-append-drop}
use Rattle.std.specs.Prelude.{ℕ, ◌+◌, ◌≤◌, List, [], ◌∷◌, ◌++◌, length, map, take, drop, slice_get}
use Rattle.alto_rows.proofs.WriteLemmas.{after-append}
use Rattle.alto_rows.specs.Accepted.{Accepted}
use Rattle.alto_rows.specs.Rows.{after}
use Rattle.alto_book.specs.Book.{Kept, Book, kept_of, all_kept, writes_in, state_at, rows_of, trimmed}
use Rattle.alto_book.specs.Laws.{TrimKeepsLegal, TrimChangesNothing}
use Rattle.alto_book.proofs.StateLemmas.{good_state, state_within, version_of-state_at}

-- ---- the rows

-- the writes of batches in two parts
writes_in-append : (first second : List Accepted) → writes_in (first ++ second) ≡ writes_in first ++ writes_in second
writes_in-append first second = flat_map-append (λ (batch : Accepted). batch.writes) first second

-- the rows after m batches past the new base are those after n + m past the old
pub state_at-trimmed : (book : Book) (n m : ℕ) → state_at (trimmed book n) m ≡ state_at book (n + m)
state_at-trimmed book n m =
    sym (after-append book.base (writes_in (take n book.batches)) (writes_in (take m (drop n book.batches))))
    ∙ (ap (after book.base) (sym (writes_in-append (take n book.batches) (take m (drop n book.batches))))
    ∙ ap (λ (batches : List Accepted). after book.base (writes_in batches)) (sym (take-add n m book.batches)))

-- the rows stay
pub rows_of-trimmed : (book : Book) (n : ℕ) → rows_of (trimmed book n) ≡ rows_of book
rows_of-trimmed book n =
    sym (after-append book.base (writes_in (take n book.batches)) (writes_in (drop n book.batches)))
    ∙ (ap (after book.base) (sym (writes_in-append (take n book.batches) (drop n book.batches)))
    ∙ ap (λ (batches : List Accepted). after book.base (writes_in batches)) (take-append-drop n book.batches))

-- ---- what is kept

-- what is kept of the batches stays
pub all_kept-trimmed : (book : Book) (n : ℕ) → all_kept (trimmed book n) ≡ all_kept book
all_kept-trimmed book n =
    append_assoc book.receipts (map kept_of (take n book.batches)) (map kept_of (drop n book.batches))
    ∙ ap (λ (kept : List Kept). book.receipts ++ kept)
    (sym (map-append kept_of (take n book.batches) (drop n book.batches))
    ∙ ap (map kept_of) (take-append-drop n book.batches))

-- so many batches led to the new base
pub length-receipts-trimmed : (book : Book) (n : ℕ) → n ≤ length book.batches
    → length (trimmed book n).receipts ≡ length book.receipts + n
length-receipts-trimmed book n le =
    length-append book.receipts (map kept_of (take n book.batches))
    ∙ ap (λ (k : ℕ). length book.receipts + k) (length-map (take n book.batches) kept_of
    ∙ length-take-le n book.batches le)

-- a base that moves on changes no rows, no number and no receipt
pub trim_changes_nothing : TrimChangesNothing
trim_changes_nothing book n le = record {
  rows = rows_of-trimmed book n;
  number = rw (length-receipts-trimmed book n le, length-drop n book.batches) (omega arith);
  kept = all_kept-trimmed book n;
}

-- ---- it stays legal

-- the batches behind the first n stand n places on
pub slice_get-drop : {X : Type 0} (xs : List X) (n m : ℕ) → slice_get (drop n xs) m ≡ slice_get xs (n + m)
slice_get-drop xs zero m =
    let same : m ≡ 0 + m = omega arith in
    ap (slice_get xs) same
slice_get-drop [] (suc n) m = refl
slice_get-drop (x ∷ xs) (suc n) m =
    let next : suc (n + m) ≡ suc n + m = omega arith in
    slice_get-drop xs n m ∙ ap (slice_get (x ∷ xs)) next

-- there are no more writes behind the first n batches
length-writes_in-drop : (batches : List Accepted) (n : ℕ)
    → length (writes_in (drop n batches)) ≤ length (writes_in batches)
length-writes_in-drop batches n =
    let whole : length (writes_in batches) ≡ length (writes_in (take n batches)) + length (writes_in (drop n batches)) =
    ap (λ (some : List Accepted). length (writes_in some)) (sym (take-append-drop n batches))
    ∙ (ap length (writes_in-append (take n batches) (drop n batches))
    ∙ length-append (writes_in (take n batches)) (writes_in (drop n batches))) in
    omega arith

-- a legal book stays legal as its base moves on
pub trim_keeps_legal : TrimKeepsLegal
trim_keeps_legal book n legal le small = record {
  base = record {
    good = good_state book n legal;
    within = state_within book n legal;
    versions = λ of. rw (length-receipts-trimmed book n le) (version_of-state_at book n of legal);
  };
  small = rw (length-receipts-trimmed book n le) small;
  each = λ m batch there. rw (state_at-trimmed book n m)
      (legal.each (n + m) batch (sym (slice_get-drop book.batches n m) ∙ there));
  ids = rw (all_kept-trimmed book n) legal.ids;
  moments = rw (all_kept-trimmed book n) legal.moments;
  batches = rw (length-drop n book.batches) (omega (arith, legal.batches));
  writes = omega (arith, length-writes_in-drop book.batches n, legal.writes);
}
