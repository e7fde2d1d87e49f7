-- How the rows at two numbers of a legal book differ, and which batches leave a network map.
use Rattle.std.proofs.Common.{◌≡◌, ap, sym, ◌∙◌, arith, suc, zero, add-one}
use Rattle.std.specs.Prelude.{ℕ, ◌+◌, ◌-◌, ◌<◌, ◌≤◌, true, false, List, [], length, take, drop, Option, Some, None}
use Rattle.std.specs.Prelude.{is_some, IfSome}
use Rattle.alto_rows.specs.declared.key.Key.{Key}
use Rattle.alto_rows.specs.declared.key.Key.TheVariants as key
use Rattle.alto_rows.specs.declared.resource.Resource.{Resource}
use Rattle.alto_rows.specs.declared.resource.Resource.TheVariants as resource
use Rattle.alto_rows.specs.declared.value.Value.{Value}
use Rattle.alto_rows.specs.declared.value.Value.TheVariants as value
use Rattle.alto_rows.proofs.WriteLemmas.{value_of-after-none}
use Rattle.alto_rows.specs.Good.{Fits, AreGood}
use Rattle.alto_rows.specs.Rows.{Rows, value_of, after}
use Rattle.alto_rows.specs.Touches.{touches}
use Rattle.alto_rows.specs.Versions.{number_in, is_declared, version_of}
use Rattle.net_docs.specs.NetworkMap.{network_map}
use Rattle.net_docs.proofs.KeysLemmas.{same_map}
use Rattle.tips_graph.proofs.KeySetLemmas.{key_set_has}
use Rattle.tips_graph.specs.Graph.{Push}
use Rattle.alto_book.specs.Book.{Book, state_at, rows_of, writes_in}
use Rattle.alto_book.specs.Legal.{IsLegal}
use Rattle.alto_book.specs.NumberLaws.{UntouchedMapStays, LastNumberIsNow, NumbersDifferByKeys}
use Rattle.alto_book.specs.Numbers.{touching, rows_at, batches_to, batches_between, pushes_of, origin_of}
use Rattle.alto_book.proofs.BetweenLemmas.{batches_from, state_at-between, pushes_between, pushes_from, keys_in}
use Rattle.alto_book.proofs.BetweenLemmas.{has-pushes, quiet_declared}
use Rattle.alto_book.proofs.ChangeLemmas.{has, none_writes, epoch_stays}
use Rattle.alto_book.proofs.DeclaredLemmas.{declared_since, number_declared_below}
use Rattle.alto_book.proofs.GivenLemmas.{declared_renewed, none_touching}
use Rattle.alto_book.proofs.NumberLemmas.{version_of-later}
use Rattle.alto_book.proofs.PlaceLemmas.{HasPlace, IsReached, reached, reached_in_order, base_or_given, rows_at-given}
use Rattle.alto_book.proofs.StateLemmas.{state_at-next, state_at-all, good_state, good_rows}

-- ---- between two states

-- a key that touches a resource and that no batch between wrote has the value that it had
pub same_between : (book : Book) (of : Resource) (low high : ℕ) (at : Key) → IsLegal book → low ≤ high
    → touches of at ≡ true
    → has at (touching of (writes_in (batches_from book low high))) ≡ false
    → value_of (state_at book low) at ≡ value_of (state_at book high) at
same_between book of low high at legal le t none =
    sym (ap (λ (rows : Rows). value_of rows at) (state_at-between book low high le)
    ∙ value_of-after-none (state_at book low) (writes_in (batches_from book low high))
    at (good_state book low legal).sorted
    (none_writes of at (writes_in (batches_from book low high)) t none))

-- all states have one epoch
pub same_epoch : (book : Book) (low high : ℕ) → IsLegal book
    → value_of (state_at book low) key.Epoch ≡ value_of (state_at book high) key.Epoch
same_epoch book low high legal = epoch_stays book low legal ∙ sym (epoch_stays book high legal)

-- a resource is declared at each number that a batch gave
declared_given : (book : Book) (of : Resource) (number : ℕ) → IsLegal book
    → HasPlace book of number (length book.batches) → is_declared (rows_at book of number) of ≡ true
declared_given book of number legal found =
    ap (λ (rows : Rows). is_declared rows of)
    (rows_at-given book of number found.place found.batch legal found.given
    ∙ state_at-next book found.place found.batch found.given.there)
    ∙ declared_renewed (state_at book found.place) found.batch of (good_state book found.place legal)
    (legal.each found.place found.batch found.given.there) found.given.renewed

-- so it is at each number after one at which it is
declared_behind : (book : Book) (of : Resource) (i j : ℕ) → IsLegal book → origin_of book of ≤ i → i ≤ j
    → j ≤ version_of (rows_of book) of
    → is_declared (rows_at book of i) of ≡ true → is_declared (rows_at book of j) of ≡ true
declared_behind book of i j legal low le high declared =
    base_or_given book of j legal (omega (arith, low, le)) high
    (λ same one. let is : j ≡ i = omega (arith, same, low, le) in rw is declared)
    (λ found. declared_given book of j legal found)

-- the rows at two numbers differ by the keys between them
pub numbers_differ : NumbersDifferByKeys
numbers_differ book of i j legal low le high declared = record {
  good = good_state book (batches_to book of i) legal;
  good_behind = good_state book (batches_to book of j) legal;
  epoch = same_epoch book (batches_to book of i) (batches_to book of j) legal;
  same = λ at t none. same_between book of (batches_to book of i) (batches_to book of j) at
      legal (reached_in_order book of i j first last le) t
      (sym (key_set_has (touching of (writes_in (batches_between book of i j))) at) ∙ none);
  before = declared;
  behind = declared_behind book of i j legal low le high declared;
}
  where
    first : IsReached book of i
    first = reached book of i legal low (omega (arith, le, high))

    last : IsReached book of j
    last = reached book of j legal (omega (arith, low, le)) high

-- ---- network maps

-- a batch that writes no key of a network map leaves the map
pub untouched_map : UntouchedMapStays
untouched_map book net n batch legal there h =
    same_map (state_at book (n + 1)) (state_at book n) net (good_state book (n + 1) legal).sorted
    (good_state book n legal).sorted
    (same_epoch book (n + 1) n legal)
    (λ at t. ap (λ (rows : Rows). value_of rows at) next
    ∙ value_of-after-none (state_at book n) batch.writes at (good_state book n legal).sorted
    (none_writes (resource.Net net) at batch.writes t (none at)))
  where
    next : state_at book (n + 1) ≡ after (state_at book n) batch.writes
    next = ap (state_at book) (add-one n) ∙ state_at-next book n batch there

    none : (at : Key) → has at (touching (resource.Net net) batch.writes) ≡ false
    none at = ap (has at) (none_touching (resource.Net net) batch.writes h)

-- a declared resource has a version
pub versioned : (rows : Rows) (of : Resource) → AreGood rows → is_declared rows of ≡ true → 1 ≤ version_of rows of
versioned rows of good h = by (value_of rows (key.Seq of)) (good.fit (key.Seq of)) (good.versions of h)
  where
    by : (o : Option Value) → IfSome o (Fits (key.Seq of)) → is_some o ≡ true → 1 ≤ number_in o
    by None fit some = cc
    by (Some (value.Num n)) fit some = fit.1.0
    by (Some _) fit some = absurd fit.1

-- the first number of a declared resource isn't above its version
pub origin_below : (book : Book) (of : Resource) → IsLegal book → is_declared (rows_of book) of ≡ true
    → origin_of book of ≤ version_of (rows_of book) of
origin_below book of legal declared =
    let some : 1 ≤ version_of (rows_of book) of = versioned (rows_of book) of (good_rows book legal) declared in
    let rises : version_of (state_at book zero) of ≤ version_of (state_at book (length book.batches)) of =
    version_of-later book zero (length book.batches) of legal (omega arith) in
    let now : version_of (state_at book (length book.batches)) of ≡ version_of (rows_of book) of =
    ap (λ (rows : Rows). version_of rows of) (state_at-all book) in
    omega (arith, some, rises, now)

-- while a resource is declared and its version stays, no key that touches it is written
pub none_written_between : (book : Book) (of : Resource) (low high : ℕ) (at : Key) → IsLegal book → low ≤ high
    → low ≤ length book.batches
    → ((m : ℕ) → low ≤ m → m < high → is_declared (state_at book (suc m)) of ≡ true)
    → version_of (state_at book high) of ≡ version_of (state_at book low) of
    → has at (touching of (writes_in (batches_from book low high))) ≡ false
none_written_between book of low high at legal le within declared same =
    has-pushes book of (1 + low) (batches_from book low high) at (quiet_declared book of low high legal declared)
    ∙ ap (λ (pushes : List Push). has at (keys_in pushes)) none
  where
    none : pushes_from book of (1 + low) (batches_from book low high) ≡ []
    none =
        let zero_more : version_of (state_at book high) of - version_of (state_at book low) of ≡ 0 =
        omega (arith, same) in
        sym (pushes_between book of low high legal le within)
        ∙ ap (λ (n : ℕ). take n (drop (version_of (state_at book low) of + 1 - origin_of book of) (pushes_of book of)))
        zero_more

-- the map at the last number is that of the rows now
pub last_map : LastNumberIsNow
last_map book net legal declared =
    same_map (state_at book place) (state_at book end) net (good_state book place legal).sorted
    (good_state book end legal).sorted
    (same_epoch book place end legal)
    (λ at t. same_between book of place end at legal it.within
    t (none_written_between book of place end at legal it.within it.within here (now ∙ sym it.version)))
    ∙ ap (λ (rows : Rows). network_map rows net) (state_at-all book)
  where
    of : Resource
    of = resource.Net net

    end : ℕ
    end = length book.batches

    place : ℕ
    place = batches_to book of (version_of (rows_of book) of)

    it : IsReached book of (version_of (rows_of book) of)
    it = reached book of (version_of (rows_of book) of) legal (origin_below book of legal declared) (omega arith)

    now : version_of (state_at book end) of ≡ version_of (rows_of book) of
    now = ap (λ (rows : Rows). version_of rows of) (state_at-all book)

    here : (m : ℕ) → place ≤ m → m < end → is_declared (state_at book (suc m)) of ≡ true
    here m le less =
        let rises : version_of (state_at book place) of ≤ version_of (state_at book (suc m)) of =
        version_of-later book place (suc m) of legal (omega (arith, le)) in
        declared_since book of (suc m) legal (omega (arith, less))
        declared (omega (arith, rises, it.version, number_declared_below book of legal))
