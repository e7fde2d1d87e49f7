-- What a ledger keeps, at its base and after a batch.
use Rattle.std.proofs.Common.{◌≡◌, ℕ, ◌+◌, ◌≤◌, ◌<◌, List, [], ◌∷◌, ◌++◌, length, map, Some, None, refl, ap, sym, ◌∙◌}
use Rattle.std.proofs.Common.{subst, suc, zero, arith, length-append}
use Rattle.std.proofs.lemmas.List.{append-nil, length-map}
use Rattle.std.proofs.lemmas.Option.{same_Some}
use Rattle.std.specs.Prelude.{◌^◌, Result, Ok, Err, OnErr, OnOk, slice_get}
use Rattle.std.proofs.lemmas.List.Elements.{recursion_from_All}
use Rattle.std.specs.List.{AllByRecursion, IsDistinct}
use Rattle.std.specs.declared.cmp.Ordering.TheVariants.{Less}
use Rattle.alto_rows.specs.Accepted.{Accepted}
use Rattle.alto_rows.specs.declared.key.Key.{Key}
use Rattle.alto_rows.specs.declared.key.Key.TheVariants as key
use Rattle.alto_rows.specs.declared.value.Value.{Value}
use Rattle.alto_rows.specs.declared.value.Value.TheVariants as value
use Rattle.alto_rows.specs.Good.{AreGood}
use Rattle.alto_rows.specs.Order.{key_cmp, kind_of, same_name}
use Rattle.alto_rows.specs.Rows.{Rows, AreSorted, after}
use Rattle.alto_rows.proofs.RowsLemmas.{ArePast, sorted_more}
use Rattle.alto_book.specs.Acceptance.{known, with_batch}
use Rattle.alto_book.specs.Book.{Book, Kept, all_kept, kept_of, number_of, opening_rows, writes_in}
use Rattle.alto_book.specs.Legal.{IsLegal, NeverFall}
use Rattle.alto_book.proofs.GrownLemmas.{all_kept-grown, writes_in-grown}
use Rattle.alto_book.proofs.StateLemmas.{good_rows}
use Rattle.alto_versions.specs.Course.{CourseData, Follows}
use Rattle.alto_versions.specs.Front.{Version, StandsFor}
use Rattle.alto_versions.proofs.CourseLemmas.{rows_of-with_batch}
use Rattle.base_check.specs.Rules as judged
use Rattle.base_check.specs.Rules.{KeepsRule, ids_of}
use Rattle.base_code.specs.Bases.{AreStored, KeptData, write_of}
use Rattle.batch_code.specs.Storable.{IsStored}
use Rattle.alto_desk.specs.Ledger.{ArePlaced, HasPut, HasRead, Keeps, Places, book_kept, kept_in, place_of, receipt_of}
use Rattle.alto_desk.proofs.PlaceLemmas.{placed_more, placed_still, put_here}

-- ---- rows behind those of a new book

-- keys of a base are behind the epoch and the window
pub epoch_before : (at : Key) → 3 ≤ kind_of at → key_cmp key.Epoch at ≡ Less
unfolding key_cmp
epoch_before key.Epoch h = absurd (omega arith)
epoch_before key.Window h = absurd (omega arith)
epoch_before _ h = refl

pub window_before : (at : Key) → 3 ≤ kind_of at → key_cmp key.Window at ≡ Less
unfolding key_cmp
window_before key.Epoch h = absurd (omega arith)
window_before key.Window h = absurd (omega arith)
window_before _ h = refl

all_behind : (low : Key) → ((at : Key) → 3 ≤ kind_of at → key_cmp low at ≡ Less) → (rows : Rows)
    → AllByRecursion (λ row. IsStored (write_of row)) rows
    → ArePast low rows
all_behind low before [] all = tt
all_behind low before (row ∷ rows) all = (before row.0 all.0.stored, all_behind low before rows all.1)

-- so rows that can be stored stand behind those of a new book
pub sorted_behind : (epoch : List ℕ) (window : ℕ) (rows : Rows) → AreStored rows
    → AreSorted (opening_rows epoch window ++ rows)
unfolding key_cmp
sorted_behind epoch window rows stored =
    sorted_more (key.Epoch, value.Text epoch) ((key.Window, value.Num window) ∷ rows)
    (refl, all_behind key.Epoch epoch_before rows all)
    (sorted_more (key.Window, value.Num window) rows (all_behind key.Window window_before rows all) stored.sorted)
  where
    all : AllByRecursion (λ row. IsStored (write_of row)) rows
    all = recursion_from_All (λ (row : Key × Value). IsStored (write_of row)) rows stored.each

-- ---- a book at its base

-- the ids of receipts are those that the book keeps
ids_kept : (receipts : List KeptData) → map (λ (kept : Kept). kept.id) (map receipt_of receipts) ≡ ids_of receipts
ids_kept [] = refl
ids_kept (kept ∷ receipts) = ap (λ (ids : List (List ℕ)). kept.id ∷ ids) (ids_kept receipts)

-- and of a book without batches behind its base they are all
pub all_ids : (base : Rows) (receipts : List KeptData)
    → map (λ (kept : Kept). kept.id) (all_kept (book_kept base receipts [])) ≡ ids_of receipts
all_ids base receipts = ap (map (λ (kept : Kept). kept.id)) (append-nil (map receipt_of receipts)) ∙ ids_kept receipts

-- what a book keeps at a place is of the receipt at that place
record HasReceipt (receipts : List KeptData) (n : ℕ) (kept : Kept) : Type 0 where
  receipt : KeptData
  there : slice_get receipts n ≡ Some receipt
  is : receipt_of receipt ≡ kept

receipt_at : (receipts : List KeptData) (n : ℕ) (kept : Kept) → slice_get (map receipt_of receipts) n ≡ Some kept
    → HasReceipt receipts n kept
receipt_at [] n kept h = cc
receipt_at (receipt ∷ receipts) zero kept h =
    record { receipt = receipt; there = refl; is = same_Some (receipt_of receipt) kept h }
receipt_at (receipt ∷ receipts) (suc n) kept h =
    let below : HasReceipt receipts n kept = receipt_at receipts n kept h in
    record { receipt = below.receipt; there = below.there; is = below.is }

-- moments that never fall in receipts never fall in the book
moments_kept : (receipts : List KeptData) → judged.NeverFall receipts → NeverFall (map receipt_of receipts)
moments_kept receipts falls m n earlier later le h g =
    let a : HasReceipt receipts m earlier = receipt_at receipts m earlier h in
    let b : HasReceipt receipts n later = receipt_at receipts n later g in
    rw (← a.is, ← b.is) (falls m n a.receipt b.receipt le a.there b.there)

-- a book whose base keeps its rule is legal
pub legal_base : (base : Rows) (receipts : List KeptData) → KeepsRule base receipts → length receipts < 2 ^ 62
    → IsLegal (book_kept base receipts [])
legal_base base receipts keeps small = record {
  base = record {
    good = keeps.base.good;
    within = keeps.base.within;
    versions = λ of. rw (length-map receipts receipt_of) (keeps.base.versions of);
  };
  small = rw (length-map receipts receipt_of) small;
  each = λ n batch h. cc;
  ids = subst (IsDistinct same_name) (sym (all_ids base receipts)) keeps.kept.ids;
  moments = subst NeverFall (sym (append-nil (map receipt_of receipts))) (moments_kept receipts keeps.kept.moments);
  batches = omega arith;
  writes = omega arith;
}

-- it is a book that is being read
pub read_base : (base : Rows) (receipts : List KeptData) (batches : List Accepted) (places : Places)
    (course : CourseData)
    → KeepsRule base receipts → length receipts < 2 ^ 62 → batches ≡ [] → ArePlaced (kept_in receipts batches) places
    → Follows course (book_kept base receipts []) → HasRead (book_kept base receipts batches) places 0 course
read_base base receipts batches places course keeps small empty placed follows =
    rw empty (record {
      legal = legal_base base receipts keeps small;
      placed = subst (λ (some : List Accepted). ArePlaced (kept_in receipts some) places) empty placed;
      counted = refl;
      follows = follows;
    })

-- ---- one batch more

-- how much a book keeps
pub count_kept : (book : Book) → length (all_kept book) ≡ number_of book
count_kept book =
    let parts = length-append book.receipts (map kept_of book.batches) in
    omega (arith, parts, length-map book.batches kept_of)

-- the count of writes after one batch more
counted_more : (book : Book) (batch : Accepted) (writes len : ℕ) → writes ≡ length (writes_in book.batches)
    → len ≡ length batch.writes → writes + len ≡ length (writes_in (book.batches ++ batch ∷ []))
counted_more book batch writes len counted own =
    rw (counted, own, writes_in-grown book.batches batch) (sym (length-append (writes_in book.batches) batch.writes))

-- the places after one batch more, whose id has the next
pub placed_grown : (book : Book) (batch : Accepted) (places : Places) → ArePlaced (all_kept book) places
    → place_of places batch.id ≡ Some (number_of book) → ArePlaced (all_kept (with_batch book batch)) places
placed_grown book batch places placed next =
    subst (λ (kept : List Kept). ArePlaced kept places) (sym (all_kept-grown book batch))
    (placed_more (all_kept book) (kept_of batch) places placed (next ∙ ap (λ (n : ℕ). Some n) (sym (count_kept book))))

-- a ledger whose places may have gained that of a new id
pub keeps_put : {T E : Type 0} (book : Book) (batches : List Accepted) (earlier later : Places) (id : List ℕ)
    (place writes : ℕ) (version : Version) (put : Result T E)
    → Keeps book earlier writes version → batches ≡ book.batches → known (all_kept book) id ≡ None
    → OnOk put (HasPut earlier later id place) → OnErr put (later ≡ earlier)
    → Keeps (record { base = book.base; receipts = book.receipts; batches = batches }) later writes version
keeps_put book batches earlier later id place writes version (Ok x) keeps same new added unchanged =
    rw same
    (record {
      legal = keeps.legal;
      placed = placed_still (all_kept book) earlier later id place keeps.placed new added;
      counted = keeps.counted;
      stands = keeps.stands;
    })
keeps_put book batches earlier later id place writes version (Err e) keeps same new added unchanged =
    rw (same, unchanged) keeps

-- a ledger with one batch more, whose id has the next place, and the version after it
pub keeps_more : (book : Book) (batch : Accepted) (places : Places) (writes len : ℕ) (batches : List Accepted)
    (old version : Version)
    → Keeps book places writes old → IsLegal (with_batch book batch)
    → place_of places batch.id ≡ Some (number_of book)
    → batches ≡ book.batches ++ batch ∷ [] → len ≡ length batch.writes
    → StandsFor version (with_batch book batch)
    → Keeps (record { base = book.base; receipts = book.receipts; batches = batches }) places (writes + len) version
keeps_more book batch places writes len batches old version keeps legal next more own stands =
    rw more
    (record {
      legal = legal;
      placed = placed_grown book batch places keeps.placed next;
      counted = counted_more book batch writes len keeps.counted own;
      stands = stands;
    })

-- a book that is being read, with one batch more
pub read_more : (book : Book) (batch : Accepted) (writes len place : ℕ) (batches : List Accepted)
    (earlier later : Places) (old course : CourseData)
    → HasRead book earlier writes old → IsLegal (with_batch book batch)
    → batches ≡ book.batches ++ batch ∷ [] → len ≡ length batch.writes
    → known (all_kept book) batch.id ≡ None → place ≡ number_of book → HasPut earlier later batch.id place
    → Follows course (with_batch book batch)
    → HasRead (record { base = book.base; receipts = book.receipts; batches = batches }) later (writes + len) course
read_more book batch writes len place batches earlier later old course read legal more own new count put follows =
    rw more
    (record {
      legal = legal;
      placed =
          placed_grown book batch later (placed_still (all_kept book) earlier later batch.id place read.placed new put)
          (put_here earlier later batch.id place put ∙ ap (λ (n : ℕ). Some n) count);
      counted = counted_more book batch writes len read.counted own;
      follows = follows;
    })

-- the rows after a batch that the book may take are good
pub good_more : (book : Book) (batch : Accepted) (places : Places) (writes : ℕ) (version : Version)
    → Keeps book places writes version → IsLegal (with_batch book batch) → AreGood (after version.rows batch.writes)
good_more book batch places writes version keeps legal =
    rw (keeps.stands.current, rows_of-with_batch book batch) (good_rows (with_batch book batch) legal)
