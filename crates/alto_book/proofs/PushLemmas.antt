-- The pushes of a legal book, number by number.
use Rattle.std.proofs.Common.{◌≡◌, refl, ap, sym, ◌∙◌, arith, suc, zero}
use Rattle.std.proofs.lemmas.List.{append-nil}
use Rattle.std.proofs.lemmas.Option.{slice_get_within}
use Rattle.std.specs.Prelude.{ℕ, ◌+◌, ◌-◌, ◌<◌, ◌≤◌, true, List, [], ◌∷◌, ◌++◌, length, take, drop, Some, option_map}
use Rattle.std.specs.Prelude.{slice_get}
use Rattle.std.specs.List.{AllByRecursion}
use Rattle.alto_rows.specs.declared.key.Key.{Key}
use Rattle.alto_rows.specs.declared.resource.Resource.{Resource}
use Rattle.alto_rows.specs.Accepted.{Accepted}
use Rattle.alto_rows.specs.Rows.{Rows}
use Rattle.alto_rows.specs.Versions.{is_declared, version_of}
use Rattle.tips_graph.specs.Graph.{Push}
use Rattle.tips_graph.specs.Keys.{key_set}
use Rattle.alto_book.specs.Book.{Book, state_at, rows_of}
use Rattle.alto_book.specs.Legal.{IsLegal}
use Rattle.alto_book.specs.NumberLaws.{EachNumberIsGivenOnce, NoNumberTwice, GivenNumberIsNext}
use Rattle.alto_book.specs.NumberLaws.{TouchedResourcesGetNumbers, PushIsOfItsBatch, AreNumbers, PushIsOfItsStep}
use Rattle.alto_book.specs.NumberLaws.{KeysAreThoseOfThePushes}
use Rattle.alto_book.specs.Numbers.{renews, rows_at, touching, batches_to, keys_between, base_push, pushes_of}
use Rattle.alto_book.specs.Numbers.{origin_of}
use Rattle.alto_book.proofs.BetweenLemmas.{slice_get-front, batches_from, batches_one, one_push, pushes_between}
use Rattle.alto_book.proofs.BetweenLemmas.{pushes_from, IsQuiet, keys_in, key_set-pushes, quiet_declared}
use Rattle.alto_book.proofs.DeclaredLemmas.{declared_since}
use Rattle.alto_book.proofs.GivenLemmas.{renews_written}
use Rattle.tips_graph.proofs.KeySetLemmas.{key_set-key_set}
use Rattle.alto_book.proofs.PlaceLemmas.{IsGivenAt, HasPlace, IsReached, place_now, reached, reached_in_order}
use Rattle.alto_book.proofs.PlaceLemmas.{base_or_given, above_zero, given_back, given_there, given_once, rows_at-given}
use Rattle.alto_book.proofs.PlaceLemmas.{batches_to-base, version_of-given, version_of-next}
use Rattle.alto_book.proofs.NumberLemmas.{version_of-later}
use Rattle.alto_book.proofs.StateLemmas.{state_at-next, good_state}

-- ---- the numbers

-- each number is given by one batch
pub given_once_each : EachNumberIsGivenOnce
given_once_each book of number legal low high =
    let found : HasPlace book of number (length book.batches) = place_now book of number legal low high in
    record {
      place = found.place;
      batch = found.batch;
      there = found.given.there;
      given = given_there book of number found.place found.batch legal found.given;
      only = given_once book of number found.place found.batch legal found.given;
    }

-- the number that a batch gives is the next
pub given_is_next : GivenNumberIsNext
given_is_next book of number n batch legal there gave =
    let given : IsGivenAt book of number n batch = given_back book of number n batch legal there gave in
    let behind : n + 1 ≡ suc n = omega arith in (
      sym given.before,
      ap (λ (place : ℕ). version_of (state_at book place) of) behind
          ∙ version_of-given book of number n batch legal given,
    )

-- a later batch gives a resource a higher number
pub numbers_rise : NoNumberTwice
numbers_rise book of m n earlier later low high legal less there behind gave more =
    let first : IsGivenAt book of low m earlier = given_back book of low m earlier legal there gave in
    let second : version_of (state_at book n) of + 1 ≡ high =
    (given_back book of high n later legal behind more).before in
    let reached : version_of (state_at book (suc m)) of ≡ low = version_of-given book of low m earlier legal first in
    let upto : version_of (state_at book (suc m)) of ≤ version_of (state_at book n) of =
    version_of-later book (suc m) n of legal less in
    omega (arith, second, reached, upto)

-- what touches a resource that is declared afterwards gives it a number
pub touched_resources : TouchedResourcesGetNumbers
touched_resources book of n batch legal there declared written =
    given_there book of (version_of (state_at book (n + 1)) of) n batch legal
    (record {
      there = there;
      before = sym (ap (λ (place : ℕ). version_of (state_at book place) of) behind
          ∙ (version_of-next book of n batch legal there ∙ rw renewed refl));
      renewed = renewed;
    })
  where
    behind : n + 1 ≡ suc n
    behind = omega arith

    renewed : renews of batch ≡ true
    renewed =
        renews_written (state_at book n) batch of (good_state book n legal) (legal.each n batch there)
        (ap (λ (rows : Rows). is_declared rows of) (sym (ap (state_at book) behind ∙ state_at-next book n batch there))
        ∙ declared) written

-- ---- their pushes

-- the push of the batch at a place
pub push_at : (book : Book) (of : Resource) (number place : ℕ) (batch : Accepted) → IsLegal book
    → IsGivenAt book of number place batch
    → slice_get (pushes_of book of) (number - origin_of book of)
    ≡ Some (record { rows = rows_at book of number; keys = key_set (touching of batch.writes) })
push_at book of number place batch legal given =
    slice_get-front (pushes_of book of) (number - origin_of book of) push
    (ap (λ (n : ℕ). take n (drop (number - origin_of book of) (pushes_of book of))) (sym one)
    ∙ (ap (λ (n : ℕ). take (version_of (state_at book (suc place)) of - version_of (state_at book place) of)
    (drop n (pushes_of book of))) (sym first)
    ∙ (pushes_between book of place (suc place) legal (omega arith) few ∙ of_batch)))
  where
    push : Push
    push = record { rows = rows_at book of number; keys = key_set (touching of batch.writes) }

    few : place ≤ length book.batches
    few = let less : place < length book.batches = slice_get_within book.batches place batch given.there in omega arith

    first : version_of (state_at book place) of + 1 - origin_of book of ≡ number - origin_of book of
    first = ap (λ (n : ℕ). n - origin_of book of) given.before

    one : version_of (state_at book (suc place)) of - version_of (state_at book place) of ≡ 1
    one = omega (arith, version_of-given book of number place batch legal given, given.before)

    of_batch : pushes_from book of (1 + place) (batches_from book place (suc place)) ≡ push ∷ []
    of_batch =
        let counted : 1 + place ≡ suc place = omega arith in
        let rows : state_at book (1 + place) ≡ rows_at book of number =
        ap (state_at book) counted ∙ sym (rows_at-given book of number place batch legal given) in
        ap (pushes_from book of (1 + place)) (batches_one book place batch given.there)
        ∙ (one_push book of (1 + place) batch given.renewed
        ∙ ap (λ (after : Rows). (let made : Push = record { rows = after; keys = key_set (touching of batch.writes) } in
        made) ∷ []) rows)

-- a number's push has the rows at the number, and the keys of its batch
pub push_of_batch : PushIsOfItsBatch
push_of_batch book of number n batch legal there gave =
    push_at book of number n batch legal (given_back book of number n batch legal there gave)

-- a list begins with its first part
slice_get-begins : (xs ys : List Push) (x : Push) → xs ≡ x ∷ [] → slice_get (xs ++ ys) 0 ≡ Some x
slice_get-begins xs ys x h = rw h refl

-- the push of each number has the rows at it
pub rows_of_push : (book : Book) (of : Resource) (number : ℕ) → IsLegal book → origin_of book of ≤ number
    → number ≤ version_of (rows_of book) of
    → option_map (λ push. push.rows) (slice_get (pushes_of book of) (number - origin_of book of))
    ≡ Some (rows_at book of number)
rows_of_push book of number legal low high =
    base_or_given book of number legal low high base
    (λ found. ap (option_map (λ (push : Push). push.rows))
    (push_at book of number found.place found.batch legal found.given))
  where
    base : version_of book.base of ≡ number → 1 ≤ number
        → option_map (λ (push : Push). push.rows) (slice_get (pushes_of book of) (number - origin_of book of))
        ≡ Some (rows_at book of number)
    base same one =
        ap (λ (n : ℕ). option_map (λ (push : Push). push.rows) (slice_get (pushes_of book of) n)) first
        ∙ (ap (option_map (λ (push : Push). push.rows)) (slice_get-begins (base_push book of) _ shown begins)
        ∙ ap (λ (n : ℕ). Some (state_at book n)) (sym (batches_to-base book of number same)))
      where
        shown : Push
        shown = record { rows = book.base; keys = [] }

        first : number - origin_of book of ≡ 0
        first = omega (arith, same, one)

        begins : base_push book of ≡ shown ∷ []
        begins = rw (above_zero (version_of book.base of) (omega (arith, same, one))) refl

-- ---- between two numbers

-- what holds of two numbers between which a resource wasn't withdrawn
pub record Between (book : Book) (of : Resource) (i j : ℕ) : Type 0 where
  pub first : IsReached book of i
  pub last : IsReached book of j
  pub ordered : batches_to book of i ≤ batches_to book of j
  pub declared : (m : ℕ) → batches_to book of i ≤ m → m ≤ length book.batches → is_declared (state_at book m) of ≡ true

pub between : (book : Book) (of : Resource) (i j : ℕ) → AreNumbers book of i j → Between book of i j
between book of i j numbers = record {
  first = first;
  last = last;
  ordered = reached_in_order book of i j first last numbers.rise;
  declared = λ m le within.
      let rises : version_of (state_at book (batches_to book of i)) of ≤ version_of (state_at book m) of =
      version_of-later book (batches_to book of i) m of numbers.legal le in
      declared_since book of m numbers.legal within numbers.declared
      (omega (arith, rises, first.version, numbers.from));
}
  where
    first : IsReached book of i
    first = reached book of i numbers.legal (omega (arith, numbers.from)) (omega (arith, numbers.rise, numbers.upto))

    last : IsReached book of j
    last = reached book of j numbers.legal (omega (arith, numbers.from, numbers.rise)) numbers.upto

-- the batches between them write a key that touches the resource only with a number
pub quiet_between : (book : Book) (of : Resource) (i j : ℕ) → IsLegal book → Between book of i j
    → AllByRecursion (IsQuiet of) (batches_from book (batches_to book of i) (batches_to book of j))
quiet_between book of i j legal it =
    quiet_declared book of (batches_to book of i) (batches_to book of j) legal
    (λ m le less. it.declared (suc m) (omega (arith, le)) (omega (arith, less, it.last.within)))

-- their pushes
pushes_of_numbers : (book : Book) (of : Resource) (i j : ℕ) → IsLegal book → Between book of i j
    → take (j - i) (drop (i + 1 - origin_of book of) (pushes_of book of))
    ≡ pushes_from book of (1 + batches_to book of i) (batches_from book (batches_to book of i) (batches_to book of j))
pushes_of_numbers book of i j legal it =
    ap (λ (v : ℕ). take (v - i) (drop (i + 1 - origin_of book of) (pushes_of book of))) (sym it.last.version)
    ∙ (ap (λ (v : ℕ). take (version_of (state_at book (batches_to book of j)) of - v)
    (drop (v + 1 - origin_of book of) (pushes_of book of))) (sym it.first.version)
    ∙ pushes_between book of (batches_to book of i) (batches_to book of j) legal it.ordered it.first.within)

-- the keys between two numbers are those of the pushes between
pub keys_of_pushes : KeysAreThoseOfThePushes
keys_of_pushes book of i j numbers =
    let it : Between book of i j = between book of i j numbers in
    key_set-pushes book of (1 + batches_to book of i) (batches_from book (batches_to book of i) (batches_to book of j))
    (quiet_between book of i j numbers.legal it)
    ∙ ap (λ (pushes : List Push). key_set (keys_in pushes)) (sym (pushes_of_numbers book of i j numbers.legal it))

-- what is behind the first n elements begins with the element there
front_of : (xs : List Push) (n : ℕ) (x : Push) → slice_get xs n ≡ Some x → take 1 (drop n xs) ≡ x ∷ []
front_of [] n x h = cc
front_of (first ∷ xs) zero x h =
    let same : first ≡ x = cc in
    rw same refl
front_of (first ∷ xs) (suc n) x h = front_of xs n x h

-- behind the lowest number, the keys of a push are those between the number before and it
pub push_of_step : PushIsOfItsStep
push_of_step book of i numbers =
    there ∙ ap (λ (keys : List Key). Some (let made : Push = record { rows = rows_at book of (i + 1); keys = keys } in
    made)) keys
  where
    last : HasPlace book of (i + 1) (length book.batches)
    last = place_now book of (i + 1) numbers.legal (omega (arith, numbers.from)) numbers.upto

    there : slice_get (pushes_of book of) (i + 1 - origin_of book of)
        ≡ Some (record { rows = rows_at book of (i + 1); keys = key_set (touching of last.batch.writes) })
    there = push_at book of (i + 1) last.place last.batch numbers.legal last.given

    step : take (i + 1 - i) (drop (i + 1 - origin_of book of) (pushes_of book of))
        ≡ record { rows = rows_at book of (i + 1); keys = key_set (touching of last.batch.writes) } ∷ []
    step =
        let one : i + 1 - i ≡ 1 = omega arith in
        ap (λ (n : ℕ). take n (drop (i + 1 - origin_of book of) (pushes_of book of))) one
        ∙ front_of (pushes_of book of) (i + 1 - origin_of book of) _ there

    keys : key_set (touching of last.batch.writes) ≡ keys_between book of i (i + 1)
    keys =
        sym (keys_of_pushes book of i (i + 1) numbers
        ∙ (ap (λ (pushes : List Push). key_set (keys_in pushes)) step
        ∙ (ap key_set (append-nil (key_set (touching of last.batch.writes)))
        ∙ key_set-key_set (touching of last.batch.writes))))
