-- Lists that are gone through, with one item more.
use Rattle.std.proofs.Common.{◌≡◌, ℕ, ◌+◌, ◌<◌, ◌≤◌, List, [], ◌∷◌, ◌++◌, length, map, refl, ap, sym, ◌∙◌, subst}
use Rattle.std.proofs.Common.{append_assoc, arith, length-append}
use Rattle.std.specs.Prelude.{◌^◌, drop, get_or, take}
use Rattle.std.proofs.lemmas.Grind.{flat_map-append}
use Rattle.std.proofs.lemmas.List.{map-append, take-append-drop}
use Rattle.alto_rows.specs.Accepted.{Accepted}
use Rattle.alto_rows.specs.Good.{AreGood}
use Rattle.alto_rows.specs.Rows.{Rows, after}
use Rattle.alto_rows.proofs.WriteLemmas.{after-append}
use Rattle.alto_book.specs.Acceptance.{with_batch}
use Rattle.alto_book.specs.Book.{Book, Extends, Kept, kept_of, writes_in}
use Rattle.alto_book.specs.Legal.{IsLegal}
use Rattle.alto_book.proofs.EarlierLemmas.{earlier_is_legal}
use Rattle.alto_book.proofs.GrownLemmas.{writes_in-grown}
use Rattle.alto_book.proofs.StateLemmas.{good_rows}
use Rattle.alto_versions.specs.Course.{CourseData, Follows}
use Rattle.alto_versions.proofs.CourseLemmas.{rows_of-with_batch}
use Rattle.base_code.specs.Bases.{KeptData}
use Rattle.alto_desk.specs.Ledger.{book_kept, receipt_of}
use Rattle.alto_desk.proofs.RecordLemmas.{taken}

-- the values of the items so far, with the next
pub values_next : {A B : Type 0} (f : A → B) (xs : List A) (i : ℕ) (x : A) → i < length xs → x ≡ get_or xs i x
    → map f (take (i + 1) xs) ≡ map f (take i xs) ++ f x ∷ []
values_next f xs i x within is = ap (map f) (taken xs i x within is) ∙ map-append f (take i xs) (x ∷ [])

-- the rows after the batches so far, and after the next
pub after_next : {A : Type 0} (f : A → Accepted) (base now next : Rows) (xs : List A) (i : ℕ) (x : A) → i < length xs
    → x ≡ get_or xs i x
    → now ≡ after base (writes_in (map f (take i xs))) → next ≡ after now (f x).writes
    → next ≡ after base (writes_in (map f (take (i + 1) xs)))
after_next f base now next xs i x within is so_far led =
    let batches = map f (take i xs) in
    led
    ∙ (ap (λ (rows : Rows). after rows (f x).writes) so_far
    ∙ (sym (after-append base (writes_in batches) (f x).writes)
    ∙ ap (after base) (sym (writes_in-grown batches (f x)) ∙ ap writes_in (sym (values_next f xs i x within is)))))

-- the receipts of a base and of the batches so far, and of the next
pub receipts_next : {A : Type 0} (f : A → Accepted) (first : List Kept) (now next : List KeptData) (kept : KeptData)
    (xs : List A) (i : ℕ) (x : A)
    → i < length xs → x ≡ get_or xs i x → map receipt_of now ≡ first ++ map kept_of (map f (take i xs))
    → next ≡ now ++ kept ∷ []
    → receipt_of kept ≡ kept_of (f x) → map receipt_of next ≡ first ++ map kept_of (map f (take (i + 1) xs))
receipts_next f first now next kept xs i x within is so_far pushed same =
    let batches = map f (take i xs) in
    ap (map receipt_of) pushed
    ∙ (map-append receipt_of now (kept ∷ [])
    ∙ (ap (λ (all : List Kept). all ++ receipt_of kept ∷ []) so_far
    ∙ (append_assoc first (map kept_of batches) (receipt_of kept ∷ [])
    ∙ ap (λ (all : List Kept). first ++ all)
    (ap (λ (one : Kept). map kept_of batches ++ one ∷ []) same
    ∙ (sym (map-append kept_of batches (f x ∷ [])) ∙ ap (map kept_of) (sym (values_next f xs i x within is)))))))

-- how many writes the batches so far have, and with the next
pub counted_next : {A : Type 0} (f : A → Accepted) (now len : ℕ) (xs : List A) (i : ℕ) (x : A) → i < length xs
    → x ≡ get_or xs i x
    → now ≡ length (writes_in (map f (take i xs))) → len ≡ length (f x).writes
    → now + len ≡ length (writes_in (map f (take (i + 1) xs)))
counted_next f now len xs i x within is so_far own =
    let batches = map f (take i xs) in
    let grown : length (writes_in (map f (take (i + 1) xs))) ≡ length (writes_in batches) + length (f x).writes =
    ap (λ (some : List Accepted). length (writes_in some)) (values_next f xs i x within is)
    ∙ (ap length (writes_in-grown batches (f x)) ∙ length-append (writes_in batches) (f x).writes) in
    omega (arith, so_far, own, grown)

-- the first batches of a legal book, and what is behind them
pub book_extends : {A : Type 0} (f : A → Accepted) (base : Rows) (receipts : List KeptData) (xs : List A) (n : ℕ)
    → Extends (book_kept base receipts (map f xs)) (book_kept base receipts (map f (take n xs)))
book_extends f base receipts xs n = record {
  base = refl;
  receipts = refl;
  more = map f (drop n xs);
  batches = ap (map f) (sym (take-append-drop n xs)) ∙ map-append f (take n xs) (drop n xs);
}

-- the book with the first of them is legal
pub first_legal : {A : Type 0} (f : A → Accepted) (base : Rows) (receipts : List KeptData) (xs : List A) (n : ℕ)
    → IsLegal (book_kept base receipts (map f xs)) → IsLegal (book_kept base receipts (map f (take n xs)))
first_legal f base receipts xs n legal =
    earlier_is_legal (book_kept base receipts (map f (take n xs))) (book_kept base receipts (map f xs))
    legal (book_extends f base receipts xs n)

-- and with one more
pub book_next : {A : Type 0} (f : A → Accepted) (base : Rows) (receipts : List KeptData) (xs : List A) (i : ℕ) (x : A)
    → i < length xs → x ≡ get_or xs i x
    → with_batch (book_kept base receipts (map f (take i xs))) (f x) ≡ book_kept base receipts (map f (take (i + 1) xs))
book_next f base receipts xs i x within is = ap (book_kept base receipts) (sym (values_next f xs i x within is))

-- ---- a course that goes on

-- it has room, and the rows after a batch are good
pub record CanStep (course : CourseData) (batch : Accepted) : Type 0 where
  pub room : course.n < 2 ^ 63
  pub good : AreGood (after course.rows batch.writes)

pub can_step : (book : Book) (batch : Accepted) (course : CourseData) → Follows course book → IsLegal book
    → IsLegal (with_batch book batch)
    → CanStep course batch
can_step book batch course follows legal more = record {
  room = omega (arith, follows.number, legal.small, legal.batches);
  good = rw (follows.current, rows_of-with_batch book batch) (good_rows (with_batch book batch) more);
}

-- the batches so far and the next have no more writes than all
pub writes_within : {A : Type 0} (f : A → Accepted) (xs : List A) (i : ℕ) (x : A) → i < length xs → x ≡ get_or xs i x
    → length (writes_in (map f (take i xs))) + length (f x).writes ≤ length (writes_in (map f xs))
writes_within {A = A} f xs i x within is =
    let next = counted_next f (length (writes_in (map f (take i xs)))) (length (f x).writes) xs i x
    within is refl refl in
    let front = map f (take (i + 1) xs) in
    let back = map f (drop (i + 1) xs) in
    let all : length (writes_in (map f xs)) ≡ length (writes_in front) + length (writes_in back) =
    ap (λ (some : List A). length (writes_in (map f some))) (sym (take-append-drop (i + 1) xs))
    ∙ (ap (λ (some : List Accepted). length (writes_in some)) (map-append f (take (i + 1) xs) (drop (i + 1) xs))
    ∙ (ap length (flat_map-append (λ (batch : Accepted). batch.writes) front back)
    ∙ length-append (writes_in front) (writes_in back))) in
    omega (arith, next, all)

-- a course of the book with the first batches goes on to the next
pub record GoesOn (book later : Book) (course : CourseData) (batch : Accepted) : Type 0 where
  pub can : CanStep course batch
  pub legal : IsLegal book
  pub more : IsLegal (with_batch book batch)
  pub next : with_batch book batch ≡ later

pub goes_on : {A : Type 0} (f : A → Accepted) (base : Rows) (receipts : List KeptData) (xs : List A) (i : ℕ) (x : A)
    (batch : Accepted) (course : CourseData)
    → IsLegal (book_kept base receipts (map f xs)) → i < length xs → x ≡ get_or xs i x → batch ≡ f x
    → Follows course (book_kept base receipts (map f (take i xs)))
    → GoesOn (book_kept base receipts (map f (take i xs)))
    (book_kept base receipts (map f (take (i + 1) xs))) course batch
goes_on f base receipts xs i x batch course legal within is same follows = record {
  can = can_step book batch course follows before more;
  legal = before;
  more = more;
  next = next;
}
  where
    book : Book
    book = book_kept base receipts (map f (take i xs))

    before : IsLegal book
    before = first_legal f base receipts xs i legal

    next : with_batch book batch ≡ book_kept base receipts (map f (take (i + 1) xs))
    next = ap (with_batch book) same ∙ book_next f base receipts xs i x within is

    more : IsLegal (with_batch book batch)
    more = subst IsLegal (sym next) (first_legal f base receipts xs (i + 1) legal)
