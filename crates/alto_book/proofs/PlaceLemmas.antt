-- Where a number of a resource was given, in a legal book: by the one batch that raises the version to it, or by the
-- base.
use Rattle.std.proofs.Common.{◌≡◌, refl, ap, sym, ◌∙◌, arith, suc, zero, inl, inr, get_or}
use Rattle.std.proofs.lemmas.Bool.{cases_lt}
use Rattle.std.proofs.lemmas.Bool.Decides.{nat_tests}
use Rattle.std.proofs.lemmas.List.Sums.{position_or_len_is}
use Rattle.std.proofs.lemmas.Option.{slice_get_within, slice_get-get_or, get_or_from_slice_get}
use Rattle.std.specs.Prelude.{ℕ, ◌+◌, ◌<◌, ◌≤◌, ◌⊎◌, ◌==◌, ◌&&◌, Bool, true, false, cond, length, Option, Some, None}
use Rattle.std.specs.Prelude.{slice_get}
use Rattle.std.specs.List.{position_or_len}
use Rattle.alto_rows.specs.declared.resource.Resource.{Resource}
use Rattle.alto_rows.specs.Accepted.{Accepted}
use Rattle.alto_rows.specs.Rows.{Rows}
use Rattle.alto_rows.specs.Versions.{version_of}
use Rattle.alto_book.specs.Book.{Book, state_at, rows_of}
use Rattle.alto_book.specs.Legal.{edits_in, Follows, IsLegal}
use Rattle.alto_book.specs.Numbers.{gives, renews, batches_to, rows_at, origin_of}
use Rattle.alto_book.proofs.GivenLemmas.{raised, gives-batch, renews-batch, version_of-renewed}
use Rattle.alto_book.proofs.NumberLemmas.{version_of-later}
use Rattle.alto_book.proofs.StateLemmas.{state_at-next, state_at-past, state_at-all, good_state}

-- the version after one batch more
pub version_of-next : (book : Book) (of : Resource) (n : ℕ) (batch : Accepted) → IsLegal book
    → slice_get book.batches n ≡ Some batch
    → version_of (state_at book (suc n)) of ≡ cond (renews of batch) (version_of (state_at book n) of + 1)
    (version_of (state_at book n) of)
version_of-next book of n batch legal h =
    ap (λ (rows : Rows). version_of rows of) (state_at-next book n batch h)
    ∙ version_of-renewed (state_at book n) batch of (good_state book n legal).sorted (legal.each n batch h)

-- the batch at a place gives a resource this number: it raises the version to it
pub record IsGivenAt (book : Book) (of : Resource) (number place : ℕ) (batch : Accepted) : Type 0 where
  pub there : slice_get book.batches place ≡ Some batch
  pub before : version_of (state_at book place) of + 1 ≡ number
  pub renewed : renews of batch ≡ true

-- the place of a number, among the first batches
pub record HasPlace (book : Book) (of : Resource) (number n : ℕ) : Type 0 where
  pub place : ℕ
  pub batch : Accepted
  pub within : place < n
  pub given : IsGivenAt book of number place batch

-- each number above that of the base, up to a version, has been given
pub place_of : (book : Book) (of : Resource) (number n : ℕ) → IsLegal book → version_of book.base of < number
    → number ≤ version_of (state_at book n) of
    → HasPlace book of number n
place_of book of number zero legal low high = absurd (omega (arith, low, high))
place_of book of number (suc n) legal low high =
    by (λ h. place_of book of number n legal low h) (slice_get book.batches n) refl
  where
    later : HasPlace book of number n → HasPlace book of number (suc n)
    later found =
        let within : found.place < n = found.within in
        record { place = found.place; batch = found.batch; within = omega arith; given = found.given }

    here : (batch : Accepted) → slice_get book.batches n ≡ Some batch → renews of batch ≡ true
        → (number ≤ version_of (state_at book n) of → HasPlace book of number n)
        → (number < version_of (state_at book n) of + 1) ⊎ (version_of (state_at book n) of + 1 ≤ number)
        → version_of (state_at book (suc n)) of ≡ version_of (state_at book n) of + 1 → HasPlace book of number (suc n)
    here batch e r below (inl h) v = later (below (omega arith))
    here batch e r below (inr h) v =
        record {
          place = n;
          batch = batch;
          within = omega arith;
          given = record { there = e; before = omega arith; renewed = r };
        }

    one : (batch : Accepted) → slice_get book.batches n ≡ Some batch → (b : Bool) → renews of batch ≡ b
        → (number ≤ version_of (state_at book n) of → HasPlace book of number n) → HasPlace book of number (suc n)
    one batch e true r below =
        here batch e r below (cases_lt number (version_of (state_at book n) of + 1))
        (version_of-next book of n batch legal e ∙ rw r refl)
    one batch e false r below =
        let same : version_of (state_at book (suc n)) of ≡ version_of (state_at book n) of =
        version_of-next book of n batch legal e ∙ rw r refl in
        later (below (omega arith))

    by : (number ≤ version_of (state_at book n) of → HasPlace book of number n) → (o : Option Accepted)
        → slice_get book.batches n ≡ o → HasPlace book of number (suc n)
    by below None e =
        let same : version_of (state_at book (suc n)) of ≡ version_of (state_at book n) of =
        ap (λ (rows : Rows). version_of rows of) (state_at-past book n e) in
        later (below (omega arith))
    by below (Some batch) e = one batch e (renews of batch) refl below

-- a number above that of the base, up to the version of a book, has its place
pub place_now : (book : Book) (of : Resource) (number : ℕ) → IsLegal book → version_of book.base of < number
    → number ≤ version_of (rows_of book) of
    → HasPlace book of number (length book.batches)
place_now book of number legal low high =
    place_of book of number (length book.batches) legal low (rw (state_at-all book) high)

-- a number is this
pub equal : (a b : ℕ) → a ≡ b → (a == b) ≡ true
equal a b h = grind (arith, nat_tests)

pub is_equal : (a b : ℕ) → (a == b) ≡ true → a ≡ b
is_equal a b h = grind (arith, nat_tests)

-- or another
pub apart : (a b : ℕ) → a < b → (a == b) ≡ false
apart a b h = grind (arith, nat_tests)

pub above_zero : (a : ℕ) → 1 ≤ a → (a == 0) ≡ false
above_zero a h = grind (arith, nat_tests)

pub is_apart : (a b : ℕ) → (a == b) ≡ false → a ≤ b → a < b
is_apart a b h le = grind (arith, nat_tests)

-- the batch at a number's place gives it
pub given_there : (book : Book) (of : Resource) (number place : ℕ) (batch : Accepted) → IsLegal book
    → IsGivenAt book of number place batch
    → gives of number batch ≡ true
given_there book of number place batch legal given =
    let follows : Follows (state_at book place) batch = legal.each place batch given.there in
    let raises : raised (state_at book place) (edits_in batch.writes) of ≡ true =
    sym (renews-batch (state_at book place) batch of follows) ∙ given.renewed in
    gives-batch (state_at book place) batch of number follows
    ∙ rw (raises, equal (version_of (state_at book place) of + 1) number given.before) refl

-- a batch that gives a number stands at its place
pub given_back : (book : Book) (of : Resource) (number n : ℕ) (batch : Accepted) → IsLegal book
    → slice_get book.batches n ≡ Some batch
    → gives of number batch ≡ true → IsGivenAt book of number n batch
given_back book of number n batch legal there gave =
    by (raised (state_at book n) (edits_in batch.writes) of) refl (version_of (state_at book n) of + 1 == number) refl
  where
    follows : Follows (state_at book n) batch
    follows = legal.each n batch there

    both : (raised (state_at book n) (edits_in batch.writes) of && version_of (state_at book n) of + 1 == number) ≡ true
    both = sym (gives-batch (state_at book n) batch of number follows) ∙ gave

    by : (b : Bool) → raised (state_at book n) (edits_in batch.writes) of ≡ b → (t : Bool)
        → (version_of (state_at book n) of + 1 == number) ≡ t
        → IsGivenAt book of number n batch
    by true e true f = record {
      there = there;
      before = is_equal (version_of (state_at book n) of + 1) number f;
      renewed = renews-batch (state_at book n) batch of follows ∙ e;
    }
    by true e false f = let never : true ≡ false = sym both ∙ rw (e, f) refl in cc
    by false e t f = let never : true ≡ false = sym both ∙ rw e refl in cc

-- the version after that batch
pub version_of-given : (book : Book) (of : Resource) (number place : ℕ) (batch : Accepted) → IsLegal book
    → IsGivenAt book of number place batch
    → version_of (state_at book (suc place)) of ≡ number
version_of-given book of number place batch legal given =
    version_of-next book of place batch legal given.there ∙ rw given.renewed given.before

-- a lower number was given before
pub given_before : (book : Book) (of : Resource) (i j m n : ℕ) (first last : Accepted) → IsLegal book
    → IsGivenAt book of i m first → IsGivenAt book of j n last → i ≤ j → m ≤ n
given_before book of i j m n first last legal low high le = by (cases_lt n m)
  where
    by : (n < m) ⊎ (m ≤ n) → m ≤ n
    by (inr h) = h
    by (inl h) =
        let upto : version_of (state_at book (suc n)) of ≤ version_of (state_at book m) of =
        version_of-later book (suc n) m of legal h in
        let reached : version_of (state_at book (suc n)) of ≡ j = version_of-given book of j n last legal high in
        let before : version_of (state_at book m) of + 1 ≡ i = low.before in
        absurd (omega arith)

-- no other batch gives it
pub given_once : (book : Book) (of : Resource) (number place : ℕ) (batch : Accepted) → IsLegal book
    → IsGivenAt book of number place batch
    → (n : ℕ) (other : Accepted) → slice_get book.batches n ≡ Some other → gives of number other ≡ true → n ≡ place
given_once book of number place batch legal given n other there gave =
    let too : IsGivenAt book of number n other = given_back book of number n other legal there gave in
    let upto : n ≤ place = given_before book of number number n place other batch legal too given (omega arith) in
    let from : place ≤ n = given_before book of number number place n batch other legal given too (omega arith) in
    omega arith

-- it stands where the first batch is found that gives the number
pub position-given : (book : Book) (of : Resource) (number place : ℕ) (batch : Accepted) → IsLegal book
    → IsGivenAt book of number place batch
    → position_or_len (gives of number) book.batches ≡ place
position-given book of number place batch legal given =
    let bound : place < length book.batches = within in
    position_or_len_is (gives of number) book.batches place batch (omega arith) earlier (λ _. here)
  where
    within : place < length book.batches
    within = slice_get_within book.batches place batch given.there

    here : gives of number (get_or book.batches place batch) ≡ true
    here = ap (gives of number) (get_or_from_slice_get book.batches place batch batch given.there)
        ∙ given_there book of number place batch legal given

    earlier : (k : ℕ) → k < place → gives of number (get_or book.batches k batch) ≡ false
    earlier k less = by (gives of number (get_or book.batches k batch)) refl
      where
        by : (b : Bool) → gives of number (get_or book.batches k batch) ≡ b
            → gives of number (get_or book.batches k batch) ≡ false
        by true e =
            let bound : place < length book.batches = within in
            let inside : k < length book.batches = omega arith in
            let is : k ≡ place = given_once book of number place batch legal given k (get_or book.batches k batch)
            (slice_get-get_or book.batches k batch inside) e in
            absurd (omega arith)
        by false e = e

-- the version of the base is below a number that was given
pub base_below : (book : Book) (of : Resource) (number place : ℕ) (batch : Accepted) → IsLegal book
    → IsGivenAt book of number place batch
    → version_of book.base of < number
base_below book of number place batch legal given =
    let upto : version_of (state_at book zero) of ≤ version_of (state_at book place) of =
    version_of-later book zero place of legal (omega arith) in
    let before : version_of (state_at book place) of + 1 ≡ number = given.before in
    omega arith

-- so as many batches lead to it as stand before that place, and one
pub batches_to-given : (book : Book) (of : Resource) (number place : ℕ) (batch : Accepted) → IsLegal book
    → IsGivenAt book of number place batch
    → batches_to book of number ≡ suc place
batches_to-given book of number place batch legal given =
    let at : position_or_len (gives of number) book.batches ≡ place =
    position-given book of number place batch legal given in
    let one : place + 1 ≡ suc place = omega arith in
    rw (apart (version_of book.base of) number (base_below book of number place batch legal given), at) one

-- no batch leads to the number of the base
pub batches_to-base : (book : Book) (of : Resource) (number : ℕ) → version_of book.base of ≡ number
    → batches_to book of number ≡ 0
batches_to-base book of number same = rw (equal (version_of book.base of) number same) refl

-- the rows at it are those after that batch
pub rows_at-given : (book : Book) (of : Resource) (number place : ℕ) (batch : Accepted) → IsLegal book
    → IsGivenAt book of number place batch
    → rows_at book of number ≡ state_at book (suc place)
rows_at-given book of number place batch legal given =
    ap (state_at book) (batches_to-given book of number place batch legal given)

-- ---- the batches that lead to a number

-- with the last of these batches the version reaches the number
pub record IsReached (book : Book) (of : Resource) (number : ℕ) : Type 0 where
  pub within : batches_to book of number ≤ length book.batches
  pub version : version_of (state_at book (batches_to book of number)) of ≡ number
  pub lowest : (m : ℕ) → m < batches_to book of number → version_of (state_at book m) of < number

reached_by : (book : Book) (of : Resource) (number n : ℕ) → batches_to book of number ≡ n → n ≤ length book.batches
    → version_of (state_at book n) of ≡ number
    → ((m : ℕ) → m < n → version_of (state_at book m) of < number) → IsReached book of number
reached_by book of number n e within version lowest =
    record { within = rw e within; version = rw e version; lowest = λ m less. lowest m (rw e at less) }

reached_given : (book : Book) (of : Resource) (number : ℕ) → IsLegal book
    → HasPlace book of number (length book.batches) → IsReached book of number
reached_given book of number legal found =
    let within : found.place < length book.batches = found.within in
    reached_by book of number (suc found.place) (batches_to-given book of number found.place found.batch legal
    found.given) (omega arith)
    (version_of-given book of number found.place found.batch legal found.given) lowest
  where
    lowest : (m : ℕ) → m < suc found.place → version_of (state_at book m) of < number
    lowest m less =
        let upto : version_of (state_at book m) of ≤ version_of (state_at book found.place) of =
        version_of-later book m found.place of legal (omega arith) in
        let before : version_of (state_at book found.place) of + 1 ≡ number = found.given.before in
        omega arith

-- a number from the first on is that of the base, or was given
pub base_or_given : {X : Type 0} (book : Book) (of : Resource) (number : ℕ) → IsLegal book → origin_of book of ≤ number
    → number ≤ version_of (rows_of book) of
    → (version_of book.base of ≡ number → 1 ≤ number → X) → (HasPlace book of number (length book.batches) → X) → X
base_or_given {X} book of number legal low high base given = by (version_of book.base of == number) refl
  where
    by : (b : Bool) → (version_of book.base of == number) ≡ b → X
    by true e = base (is_equal (version_of book.base of) number e) (omega (arith, low))
    by false e =
        given (place_now book of number legal (is_apart (version_of book.base of) number e (omega (arith, low))) high)

-- so the version reaches each such number
pub reached : (book : Book) (of : Resource) (number : ℕ) → IsLegal book → origin_of book of ≤ number
    → number ≤ version_of (rows_of book) of
    → IsReached book of number
reached book of number legal low high =
    base_or_given book of number legal low high
    (λ same one. reached_by book of number 0 (batches_to-base book of number same) (omega arith)
    same (λ m less. absurd (omega (arith, less))))
    (λ found. reached_given book of number legal found)

-- a lower number was reached no later
pub reached_in_order : (book : Book) (of : Resource) (i j : ℕ) → IsReached book of i → IsReached book of j → i ≤ j
    → batches_to book of i ≤ batches_to book of j
reached_in_order book of i j first last le = by (cases_lt (batches_to book of j) (batches_to book of i))
  where
    by : (batches_to book of j < batches_to book of i) ⊎ (batches_to book of i ≤ batches_to book of j)
        → batches_to book of i ≤ batches_to book of j
    by (inr h) = h
    by (inl h) =
        let below : version_of (state_at book (batches_to book of j)) of < i = first.lowest (batches_to book of j) h in
        absurd (omega (arith, below, last.version, le))
