-- A legal book with one batch more is legal, where the batch follows, has a new id and comes no earlier.
use Rattle.std.proofs.Common.{◌≡◌, refl, ap, sym, ◌∙◌, arith, suc, zero, inl, inr}
use Rattle.std.proofs.lemmas.Cmp.{nat_list_eq_equiv}
use Rattle.std.proofs.lemmas.Grind.{flat_map-append}
use Rattle.std.proofs.lemmas.List.{append-nil, append_assoc, length-append, map-append, take-append-le}
use Rattle.std.proofs.lemmas.Map.Keys.{IsDistinct-push}
use Rattle.std.proofs.lemmas.Option.{slice_get_within, same_Some}
use Rattle.std.specs.Prelude.{false, ◌⊎◌, ℕ, ◌+◌, ◌<◌, ◌≤◌, List, [], ◌∷◌, ◌++◌, length, map, fold, Some, slice_get}
use Rattle.std.specs.List.{list_any, IsDistinct}
use Rattle.alto_rows.specs.declared.write.Write.{Write}
use Rattle.alto_rows.specs.Accepted.{Accepted}
use Rattle.alto_rows.specs.Order.{same_name}
use Rattle.alto_rows.specs.Rows.{after}
use Rattle.alto_book.specs.Acceptance.{last_moment, with_batch}
use Rattle.alto_book.specs.Book.{Kept, Book, kept_of, all_kept, state_at, rows_of, writes_in}
use Rattle.alto_book.specs.Legal.{Follows, NeverFall, IsLegal}
use Rattle.alto_book.proofs.StateLemmas.{state_at-all}

-- an element of a list with one more is of the list, or is that one
pub slice_get-push : {X : Type 0} (xs : List X) (x : X) (n : ℕ) (y : X) → slice_get (xs ++ x ∷ []) n ≡ Some y
    → (slice_get xs n ≡ Some y) ⊎ ((n ≡ length xs) × (x ≡ y))
slice_get-push [] x zero y h = inr (refl, same_Some x y h)
slice_get-push [] x (suc n) y h = cc
slice_get-push (first ∷ xs) x zero y h = inl h
slice_get-push (first ∷ xs) x (suc n) y h = by (slice_get-push xs x n y h)
  where
    by : (slice_get xs n ≡ Some y) ⊎ ((n ≡ length xs) × (x ≡ y))
        → (slice_get xs n ≡ Some y) ⊎ ((suc n ≡ suc (length xs)) × (x ≡ y))
    by (inl g) = inl g
    by (inr g) = inr (ap suc g.0, g.1)

-- ---- moments

-- the last of what was kept, with its place
record HasLast (kept : List Kept) (start m : ℕ) : Type 0 where
  place : ℕ
  last : Kept
  at_least : m ≤ place
  there : slice_get kept place ≡ Some last
  moment : fold (λ _ one. one.moment) start kept ≡ last.moment

-- where anything was kept there is a last
has_last : (kept : List Kept) (start m : ℕ) (one : Kept) → slice_get kept m ≡ Some one → HasLast kept start m
has_last [] start m one h = cc
has_last (first ∷ []) start zero one h =
    record { place = 0; last = first; at_least = omega arith; there = refl; moment = refl }
has_last (first ∷ []) start (suc m) one h = cc
has_last (first ∷ next ∷ kept) start zero one h =
    let more : HasLast (next ∷ kept) first.moment 0 = has_last (next ∷ kept) first.moment 0 next refl in
    record {
      place = suc more.place;
      last = more.last;
      at_least = omega arith;
      there = more.there;
      moment = more.moment;
    }
has_last (first ∷ next ∷ kept) start (suc m) one h =
    let more : HasLast (next ∷ kept) first.moment m = has_last (next ∷ kept) first.moment m one h in
    record {
      place = suc more.place;
      last = more.last;
      at_least = omega arith;
      there = more.there;
      moment = more.moment;
    }

-- no moment is later than the last
pub moment_below : (kept : List Kept) (m : ℕ) (one : Kept) → NeverFall kept → slice_get kept m ≡ Some one
    → one.moment ≤ last_moment kept
moment_below kept m one rising h =
    let end : HasLast kept 0 m = has_last kept 0 m one h in
    rw end.moment (rising m end.place one end.last end.at_least h end.there)

-- moments never fall where one more is no earlier than the last
moments_grown : (kept : List Kept) (new : Kept) → NeverFall kept → last_moment kept ≤ new.moment
    → NeverFall (kept ++ new ∷ [])
moments_grown kept new rising late m n earlier later le h g =
    by (slice_get-push kept new m earlier h) (slice_get-push kept new n later g)
  where
    by : (slice_get kept m ≡ Some earlier) ⊎ ((m ≡ length kept) × (new ≡ earlier))
        → (slice_get kept n ≡ Some later) ⊎ ((n ≡ length kept) × (new ≡ later)) → earlier.moment ≤ later.moment
    by (inl a) (inl b) = rising m n earlier later le a b
    by (inl a) (inr b) =
        let below : earlier.moment ≤ last_moment kept = moment_below kept m earlier rising a in
        rw (← b.1) (omega arith)
    by (inr a) (inl b) =
        let within : n < length kept = slice_get_within kept n later b in
        absurd (omega arith)
    by (inr a) (inr b) = rw (← a.1, ← b.1) (omega arith)

-- ---- what each batch follows

-- the rows before the new batch are as they were
pub state_at-grown : (book : Book) (batch : Accepted) (n : ℕ) → n ≤ length book.batches
    → state_at (with_batch book batch) n ≡ state_at book n
state_at-grown book batch n le = ap (λ (batches : List Accepted). after book.base (writes_in batches))
    (take-append-le n book.batches (batch ∷ []) le)

-- each batch follows the rows before it
each_grown : (book : Book) (batch : Accepted) → IsLegal book → Follows (rows_of book) batch
    → (n : ℕ) (one : Accepted) → slice_get (book.batches ++ batch ∷ []) n ≡ Some one
    → Follows (state_at (with_batch book batch) n) one
each_grown book batch legal follows n one h = by (slice_get-push book.batches batch n one h)
  where
    by : (slice_get book.batches n ≡ Some one) ⊎ ((n ≡ length book.batches) × (batch ≡ one))
        → Follows (state_at (with_batch book batch) n) one
    by (inl a) =
        let within : n < length book.batches = slice_get_within book.batches n one a in
        rw (state_at-grown book batch n (omega arith)) (legal.each n one a)
    by (inr a) =
        let within : n ≤ length book.batches = omega arith in
        let same : state_at (with_batch book batch) n ≡ rows_of book =
        state_at-grown book batch n within ∙ ap (λ (k : ℕ). state_at book k) a.0 ∙ state_at-all book in
        rw (same, ← a.1) follows

-- ---- the book

-- the writes of one batch more
pub writes_in-grown : (batches : List Accepted) (batch : Accepted)
    → writes_in (batches ++ batch ∷ []) ≡ writes_in batches ++ batch.writes
writes_in-grown batches batch =
    flat_map-append (λ (one : Accepted). one.writes) batches (batch ∷ [])
    ∙ ap (λ (more : List Write). writes_in batches ++ more) (append-nil batch.writes)

-- what is kept of one batch more
pub all_kept-grown : (book : Book) (batch : Accepted)
    → all_kept (with_batch book batch) ≡ all_kept book ++ kept_of batch ∷ []
all_kept-grown book batch =
    ap (λ (kept : List Kept). book.receipts ++ kept) (map-append kept_of book.batches (batch ∷ []))
    ∙ sym (append_assoc book.receipts (map kept_of book.batches) (kept_of batch ∷ []))

-- ids stay different where one more is of none
ids_grown : (kept : List Kept) (new : Kept) → IsDistinct same_name (map (λ one. one.id) kept)
    → list_any (same_name new.id) (map (λ one. one.id) kept) ≡ false
    → IsDistinct same_name (map (λ one. one.id) (kept ++ new ∷ []))
ids_grown kept new distinct h =
    rw (map-append (λ (one : Kept). one.id) kept (new ∷ []))
    (IsDistinct-push nat_list_eq_equiv (map (λ (one : Kept). one.id) kept) new.id distinct h)

-- a legal book with one batch more is legal
pub legal_grown : (book : Book) (batch : Accepted) → IsLegal book → Follows (rows_of book) batch
    → list_any (same_name batch.id) (map (λ one. one.id) (all_kept book)) ≡ false
    → last_moment (all_kept book) ≤ batch.moment
    → length book.batches + 1 ≤ 4096 → length (writes_in book.batches) + length batch.writes ≤ 524288
    → IsLegal (with_batch book batch)
legal_grown book batch legal follows new late few small = record {
  base = legal.base;
  small = legal.small;
  each = each_grown book batch legal follows;
  ids = rw (all_kept-grown book batch) (ids_grown (all_kept book) (kept_of batch) legal.ids new);
  moments = rw (all_kept-grown book batch) (moments_grown (all_kept book) (kept_of batch) legal.moments late);
  batches = rw (length-append book.batches (batch ∷ [])) few;
  writes = rw (writes_in-grown book.batches batch, length-append (writes_in book.batches) batch.writes) small;
}
