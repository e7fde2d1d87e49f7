-- The rows after each batch of a legal book: they are good and within the limits, and no version is above the number of
-- batches.
use Rattle.std.proofs.Common.{◌≡◌, refl, ap, arith, suc, zero}
use Rattle.std.proofs.lemmas.List.{append-nil, append_assoc, take_all}
use Rattle.std.specs.Prelude.{ℕ, ◌+◌, ◌≤◌, List, [], ◌∷◌, ◌++◌, length, take, Option, Some, None, slice_get}
use Rattle.alto_rows.proofs.WriteLemmas.{after-append}
use Rattle.alto_rows.specs.declared.resource.Resource.{Resource}
use Rattle.alto_rows.specs.Accepted.{Accepted}
use Rattle.alto_rows.specs.Good.{AreGood}
use Rattle.alto_rows.specs.Rows.{after}
use Rattle.alto_rows.specs.Versions.{version_of}
use Rattle.alto_edits.specs.Laws.{HaveNextVersions}
use Rattle.alto_edits.specs.Limits.{AreWithin}
use Rattle.alto_book.specs.Book.{Book, number_of, state_at, rows_of, writes_in}
use Rattle.alto_book.specs.Legal.{IsLegal}
use Rattle.alto_book.proofs.BatchLemmas.{version_of-batch}

-- the writes of one batch more
writes_in-next : (batches : List Accepted) (n : ℕ) (batch : Accepted) → slice_get batches n ≡ Some batch
    → writes_in (take (suc n) batches) ≡ writes_in (take n batches) ++ batch.writes
writes_in-next [] n batch h = cc
writes_in-next (first ∷ batches) zero batch h =
    let same : first ≡ batch = cc in
    rw (append-nil first.writes, same) refl
writes_in-next (first ∷ batches) (suc n) batch h =
    rw (writes_in-next batches n batch h, append_assoc) refl

-- the rows after one batch more
pub state_at-next : (book : Book) (n : ℕ) (batch : Accepted) → slice_get book.batches n ≡ Some batch
    → state_at book (suc n) ≡ after (state_at book n) batch.writes
state_at-next book n batch h =
    rw (writes_in-next book.batches n batch h) (after-append book.base (writes_in (take n book.batches)) batch.writes)

-- the batches before the end of a list
take-past : (batches : List Accepted) (n : ℕ) → slice_get batches n ≡ None → take (suc n) batches ≡ take n batches
take-past [] zero h = refl
take-past [] (suc n) h = refl
take-past (first ∷ batches) zero h = cc
take-past (first ∷ batches) (suc n) h = ap (λ (rest : List Accepted). first ∷ rest) (take-past batches n h)

-- past the last batch the rows stay
pub state_at-past : (book : Book) (n : ℕ) → slice_get book.batches n ≡ None → state_at book (suc n) ≡ state_at book n
state_at-past book n h = ap (λ (batches : List Accepted). after book.base (writes_in batches))
    (take-past book.batches n h)

-- the rows after as many batches as there are
pub state_at-all : (book : Book) → state_at book (length book.batches) ≡ rows_of book
state_at-all book = ap (λ (batches : List Accepted). after book.base (writes_in batches))
    (take_all (length book.batches) book.batches (omega arith))

-- the rows after each batch of a legal book are good
pub good_state : (book : Book) (n : ℕ) → IsLegal book → AreGood (state_at book n)
good_state book zero legal = legal.base.good
good_state book (suc n) legal = by (good_state book n legal) (slice_get book.batches n) refl
  where
    by : AreGood (state_at book n) → (o : Option Accepted) → slice_get book.batches n ≡ o
        → AreGood (state_at book (suc n))
    by good None e = rw (state_at-past book n e) good
    by good (Some batch) e = rw (state_at-next book n batch e) (legal.each n batch e).good

-- the rows of a legal book are good
pub good_rows : (book : Book) → IsLegal book → AreGood (rows_of book)
good_rows book legal = rw (← state_at-all book) (good_state book (length book.batches) legal)

-- the rows after each batch of a legal book are within the limits
pub state_within : (book : Book) (n : ℕ) → IsLegal book → AreWithin (state_at book n)
state_within book zero legal = legal.base.within
state_within book (suc n) legal = by (state_within book n legal) (slice_get book.batches n) refl
  where
    by : AreWithin (state_at book n) → (o : Option Accepted) → slice_get book.batches n ≡ o
        → AreWithin (state_at book (suc n))
    by within None e = rw (state_at-past book n e) within
    by within (Some batch) e = rw (state_at-next book n batch e) (legal.each n batch e).within

-- the rows of a legal book are within the limits
pub rows_within : (book : Book) → IsLegal book → AreWithin (rows_of book)
rows_within book legal = rw (← state_at-all book) (state_within book (length book.batches) legal)

-- no version is above the number of batches that there were
pub version_of-state_at : (book : Book) (n : ℕ) (of : Resource) → IsLegal book
    → version_of (state_at book n) of ≤ length book.receipts + n
version_of-state_at book zero of legal =
    let below : version_of book.base of ≤ length book.receipts = legal.base.versions of in
    omega arith
version_of-state_at book (suc n) of legal = by (version_of-state_at book n of legal) (slice_get book.batches n) refl
  where
    by : version_of (state_at book n) of ≤ length book.receipts + n → (o : Option Accepted)
        → slice_get book.batches n ≡ o
        → version_of (state_at book (suc n)) of ≤ length book.receipts + suc n
    by below None e = rw (state_at-past book n e) (omega arith)
    by below (Some batch) e =
        let raised : (version_of (state_at book n) of ≤ version_of (after (state_at book n) batch.writes) of)
        × (version_of (after (state_at book n) batch.writes) of ≤ version_of (state_at book n) of + 1) =
        version_of-batch (state_at book n) batch of (good_state book n legal).sorted (legal.each n batch e) in
        rw (state_at-next book n batch e) (omega arith)

-- no version of a legal book is above the number of its batches
pub version_of-rows_of : (book : Book) (of : Resource) → IsLegal book → version_of (rows_of book) of ≤ number_of book
version_of-rows_of book of legal = rw (← state_at-all book) (version_of-state_at book (length book.batches) of legal)

-- each version has a next one before each batch of a legal book
pub next_versions_at : (book : Book) (n : ℕ) → IsLegal book → n ≤ length book.batches
    → HaveNextVersions (state_at book n)
next_versions_at book n legal within of =
    let small : version_of (state_at book n) of ≤ length book.receipts + n = version_of-state_at book n of legal in
    omega (arith, legal.small, legal.batches)

-- each version of a legal book has a next one
pub next_versions : (book : Book) → IsLegal book → HaveNextVersions (rows_of book)
next_versions book legal = rw (← state_at-all book) (next_versions_at book (length book.batches) legal (omega arith))
