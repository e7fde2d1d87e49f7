-- The versions of a legal book never fall.
use Rattle.std.proofs.Common.{◌≡◌, refl, arith, suc, zero, inl, inr}
use Rattle.std.proofs.lemmas.Bool.{cases_lt}
use Rattle.std.specs.Prelude.{◌⊎◌, ℕ, ◌<◌, ◌≤◌, Option, Some, None, slice_get}
use Rattle.alto_rows.specs.declared.resource.Resource.{Resource}
use Rattle.alto_rows.specs.Accepted.{Accepted}
use Rattle.alto_rows.specs.Versions.{version_of}
use Rattle.alto_book.specs.Book.{Book, state_at}
use Rattle.alto_book.specs.Legal.{IsLegal}
use Rattle.alto_book.proofs.BatchLemmas.{version_of-batch}
use Rattle.alto_book.proofs.StateLemmas.{state_at-next, state_at-past, good_state}

-- a later version is no lower
pub version_of-later : (book : Book) (m n : ℕ) (of : Resource) → IsLegal book → m ≤ n
    → version_of (state_at book m) of ≤ version_of (state_at book n) of
version_of-later book m zero of legal le =
    let none : m ≡ 0 = omega arith in
    rw none (omega arith)
version_of-later book m (suc n) of legal le =
    by (λ within. version_of-later book m n of legal within) (cases_lt m (suc n))
  where
    step : (o : Option Accepted) → slice_get book.batches n ≡ o
        → version_of (state_at book n) of ≤ version_of (state_at book (suc n)) of
    step None e = rw (state_at-past book n e) (omega arith)
    step (Some batch) e =
        rw (state_at-next book n batch e) (version_of-batch (state_at book n) batch of (good_state book n legal).sorted
        (legal.each n batch e)).0

    by : (m ≤ n → version_of (state_at book m) of ≤ version_of (state_at book n) of) → (m < suc n) ⊎ (suc n ≤ m)
        → version_of (state_at book m) of ≤ version_of (state_at book (suc n)) of
    by below (inr h) =
        let same : m ≡ suc n = omega arith in
        rw same (omega arith)
    by below (inl h) =
        let within : m ≤ n = omega arith in
        let before : version_of (state_at book m) of ≤ version_of (state_at book n) of = below within in
        let next : version_of (state_at book n) of ≤ version_of (state_at book (suc n)) of =
        step (slice_get book.batches n) refl in
        omega arith
