-- The books that a legal book extends are legal.
use Rattle.std.proofs.Common.{◌≡◌, ℕ, ◌≤◌, arith, length-append}
use Rattle.std.proofs.lemmas.List.{map-append}
use Rattle.std.proofs.lemmas.Option.{slice_get_within}
use Rattle.std.proofs.lemmas.Grind.{flat_map-append}
use Rattle.std.specs.Prelude.{Bool, false, List, [], ◌∷◌, ◌++◌, length, map, Some, slice_get}
use Rattle.std.specs.List.{AllByRecursion, IsDistinct}
use Rattle.alto_rows.specs.Accepted.{Accepted}
use Rattle.alto_rows.specs.Order.{same_name}
use Rattle.alto_book.specs.Book.{Kept, kept_of, all_kept, writes_in}
use Rattle.alto_book.proofs.ChangeLemmas.{state_at-extended, slice_get-extended, all_kept-extended}
use Rattle.alto_book.specs.WalkLaws.{EarlierBooksAreLegal}

-- what holds of each item holds of each of the first
each_of_first : {X : Type 0} (P : X → Type 0) (xs ys : List X) → AllByRecursion P (xs ++ ys) → AllByRecursion P xs
each_of_first P [] ys h = tt
each_of_first P (x ∷ xs) ys h = (h.0, each_of_first P xs ys h.1)

-- the first of distinct items are distinct
distinct_first : {X : Type 0} (same : X → X → Bool) (xs ys : List X) → IsDistinct same (xs ++ ys) → IsDistinct same xs
unfolding IsDistinct
distinct_first same [] ys h = tt
distinct_first same (x ∷ xs) ys h = (each_of_first (λ y. same x y ≡ false) xs ys h.0, distinct_first same xs ys h.1)

-- a front isn't longer than the whole
front_length : {X : Type 0} (xs ys : List X) (most : ℕ) → length (xs ++ ys) ≤ most → length xs ≤ most
front_length xs ys most h = omega (arith, h, length-append xs ys)

pub earlier_is_legal : EarlierBooksAreLegal
earlier_is_legal earlier later legal more = record {
  base = rw (← more.base, ← more.receipts) legal.base;
  small = rw (← more.receipts) legal.small;
  each = λ n batch there. rw (← state_at-extended earlier later n
      more (omega (arith, slice_get_within earlier.batches n batch there)))
      (legal.each n batch (rw more.batches (slice_get-extended earlier.batches more.more n batch there)));
  ids = distinct_first same_name _ (map (λ kept. kept.id) (map kept_of more.more))
      (rw (
        ← map-append (λ (kept : Kept). kept.id) (all_kept earlier) (map kept_of more.more),
        ← all_kept-extended earlier later more,
      ) legal.ids);
  moments = λ m n first last before there here. legal.moments m n first last before (found m first there)
      (found n last here);
  batches = front_length earlier.batches more.more 4096 (rw (← more.batches) legal.batches);
  writes = front_length (writes_in earlier.batches) (writes_in more.more) 524288
      (rw (
        ← flat_map-append (λ (batch : Accepted). batch.writes) earlier.batches more.more,
        ← more.batches,
      ) legal.writes);
}
  where
    found : (n : ℕ) (one : Kept) → slice_get (all_kept earlier) n ≡ Some one → slice_get (all_kept later) n ≡ Some one
    found n one there = rw (all_kept-extended earlier later more)
        (slice_get-extended (all_kept earlier) (map kept_of more.more) n one there)
