-- What changes in the rows of a legal book between two of its states, and what an extension of a book leaves.
use Rattle.std.proofs.Common.{◌≡◌, refl, ap, sym, ◌∙◌, suc, zero}
use Rattle.std.proofs.lemmas.Bool.{both_ways}
use Rattle.std.proofs.lemmas.List.{append_assoc, map-append, take-append-le}
use Rattle.std.proofs.lemmas.List.Elements.{recursion_from_All}
use Rattle.std.specs.Prelude.{ℕ, ◌≤◌, Bool, true, false, List, [], ◌∷◌, ◌++◌, length, map, Option, Some, None}
use Rattle.std.specs.Prelude.{slice_get}
use Rattle.std.specs.BTreeMap.{is_at}
use Rattle.std.specs.List.{AllByRecursion, list_any}
use Rattle.std.specs.Ordering.{is_eq}
use Rattle.alto_rows.specs.declared.key.Key.{Key}
use Rattle.alto_rows.specs.declared.key.Key.TheVariants as key
use Rattle.alto_rows.specs.declared.resource.Resource.{Resource}
use Rattle.alto_rows.specs.declared.write.Write.{Write}
use Rattle.alto_rows.proofs.OrderLemmas.{one_key}
use Rattle.alto_rows.proofs.WriteLemmas.{NoneWrites, value_of-after-none}
use Rattle.alto_rows.specs.Accepted.{Accepted}
use Rattle.alto_rows.specs.Order.{key_cmp}
use Rattle.alto_rows.specs.Rows.{Rows, value_of, after}
use Rattle.alto_rows.specs.Touches.{touches}
use Rattle.alto_rows.specs.Versions.{number_in, window_of}
use Rattle.alto_edits.specs.Laws.{IsOfBatch, FitsBatch}
use Rattle.alto_book.specs.Book.{Book, Extends, kept_of, all_kept, state_at, rows_of, writes_in}
use Rattle.alto_book.specs.Legal.{IsLegal}
use Rattle.alto_book.specs.Numbers.{touching}
use Rattle.alto_book.proofs.StateLemmas.{state_at-next, state_at-past, state_at-all, good_state}

-- ---- keys that no write is of

-- a key is among keys
abbrev pub has : Key → List Key → Bool
has key keys = list_any (is_at (key_cmp key)) keys

-- a key that touches a resource and isn't among those that writes wrote is of none of them
pub none_writes : (of : Resource) (at : Key) (writes : List Write) → touches of at ≡ true
    → has at (touching of writes) ≡ false → NoneWrites at writes
none_writes of at [] t h = tt
none_writes of at (write ∷ writes) t h =
    by (λ g. none_writes of at writes t g) (is_eq (key_cmp at write.key)) refl (touches of write.key) refl h
  where
    by : (has at (touching of writes) ≡ false → NoneWrites at writes) → (b : Bool) → is_eq (key_cmp at write.key) ≡ b
        → (c : Bool) → touches of write.key ≡ c → has at (touching of (write ∷ writes)) ≡ false
        → NoneWrites at (write ∷ writes)
    by below true e true f g =
        let found : has at (touching of (write ∷ writes)) ≡ true = rw (f, e) refl in
        absurd (both_ways (has at (touching of (write ∷ writes))) g found)
    by below true e false f g =
        let same : at ≡ write.key = one_key at write.key e in
        absurd (both_ways (touches of write.key) f (rw same at t))
    by below false e true f g =
        let rest : has at (touching of (write ∷ writes)) ≡ has at (touching of writes) = rw (f, e) refl in
        (e, below (sym rest ∙ g))
    by below false e false f g =
        let rest : has at (touching of (write ∷ writes)) ≡ has at (touching of writes) = rw f refl in
        (e, below (sym rest ∙ g))

-- ---- the epoch and the window

none_of_batch_epoch : (writes : List Write) → AllByRecursion FitsBatch writes → NoneWrites key.Epoch writes
unfolding key_cmp
none_of_batch_epoch [] all = tt
none_of_batch_epoch (write ∷ writes) all = (by write.key all.0.0, none_of_batch_epoch writes all.1)
  where
    by : (at : Key) → IsOfBatch at → is_eq (key_cmp key.Epoch at) ≡ false
    by key.Epoch h = absurd h
    by key.Window h = absurd h
    by _ h = refl

none_of_batch_window : (writes : List Write) → AllByRecursion FitsBatch writes → NoneWrites key.Window writes
unfolding key_cmp
none_of_batch_window [] all = tt
none_of_batch_window (write ∷ writes) all = (by write.key all.0.0, none_of_batch_window writes all.1)
  where
    by : (at : Key) → IsOfBatch at → is_eq (key_cmp key.Window at) ≡ false
    by key.Epoch h = absurd h
    by key.Window h = absurd h
    by _ h = refl

-- a key that batches don't write keeps its value
kept : (at : Key) → ((writes : List Write) → AllByRecursion FitsBatch writes → NoneWrites at writes)
    → (book : Book) (n : ℕ) → IsLegal book → value_of (state_at book n) at ≡ value_of book.base at
kept at none book zero legal = refl
kept at none book (suc n) legal = by (kept at none book n legal) (slice_get book.batches n) refl
  where
    by : value_of (state_at book n) at ≡ value_of book.base at → (o : Option Accepted) → slice_get book.batches n ≡ o
        → value_of (state_at book (suc n)) at ≡ value_of book.base at
    by below None e = ap (λ (rows : Rows). value_of rows at) (state_at-past book n e) ∙ below
    by below (Some batch) e =
        ap (λ (rows : Rows). value_of rows at) (state_at-next book n batch e)
        ∙ (value_of-after-none (state_at book n) batch.writes at (good_state book n legal).sorted
        (none batch.writes (recursion_from_All FitsBatch batch.writes (legal.each n batch e).fit))
        ∙ below)

-- the epoch stays
pub epoch_stays : (book : Book) (n : ℕ) → IsLegal book
    → value_of (state_at book n) key.Epoch ≡ value_of book.base key.Epoch
epoch_stays = kept key.Epoch none_of_batch_epoch

-- the window stays
pub window_stays : (book : Book) (n : ℕ) → IsLegal book
    → value_of (state_at book n) key.Window ≡ value_of book.base key.Window
window_stays = kept key.Window none_of_batch_window

-- so it is that of the base
pub window_of-base : (book : Book) → IsLegal book → window_of (rows_of book) ≡ window_of book.base
window_of-base book legal =
    ap window_of (sym (state_at-all book)) ∙ ap number_in (window_stays book (length book.batches) legal)

-- ---- what an extension leaves

-- the rows after the batches of the earlier book
pub state_at-extended : (earlier later : Book) (n : ℕ) → Extends later earlier → n ≤ length earlier.batches
    → state_at later n ≡ state_at earlier n
state_at-extended earlier later n more le =
    rw (more.base, more.batches) (ap (λ (batches : List Accepted). after earlier.base (writes_in batches))
    (take-append-le n earlier.batches more.more le))

-- the first items of a list stand where they stood
pub slice_get-extended : {X : Type 0} (xs ys : List X) (n : ℕ) (x : X) → slice_get xs n ≡ Some x
    → slice_get (xs ++ ys) n ≡ Some x
slice_get-extended [] ys n x h = cc
slice_get-extended (first ∷ xs) ys zero x h = h
slice_get-extended (first ∷ xs) ys (suc n) x h = slice_get-extended xs ys n x h

-- what was kept of its batches stands before what is kept of more
pub all_kept-extended : (earlier later : Book) → (more : Extends later earlier)
    → all_kept later ≡ all_kept earlier ++ map kept_of more.more
all_kept-extended earlier later more =
    rw (more.receipts, more.batches, map-append kept_of earlier.batches more.more)
    (sym (append_assoc earlier.receipts (map kept_of earlier.batches) (map kept_of more.more)))
