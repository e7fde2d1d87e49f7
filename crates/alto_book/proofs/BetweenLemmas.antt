-- The batches between two places of a book, and what they bring a resource: pushes, rows and keys.
use Rattle.std.proofs.Common.{◌≡◌, refl, ap, sym, ◌∙◌, arith, suc, zero}
use Rattle.std.proofs.lemmas.Bool.Decides.{nat_tests}
use Rattle.std.proofs.lemmas.Grind.{flat_map-append}
use Rattle.std.proofs.lemmas.List.{append_assoc, drop-append-le, length-append, take_all, take-append-drop, length-take}
use Rattle.std.proofs.lemmas.List.{length-take-le}
use Rattle.std.proofs.Math.Seq.{take-append_seam, drop-append_seam}
use Rattle.std.proofs.lemmas.List.Elements.{filter_map-append}
use Rattle.std.proofs.lemmas.List.Folds.{list_any-append}
use Rattle.std.proofs.lemmas.Option.{slice_get_within}
use Rattle.std.specs.Prelude.{ℕ, ◌+◌, ◌-◌, ◌<◌, ◌≤◌, Bool, true, false, ◌||◌, ◌==◌, List, [], ◌∷◌, ◌++◌, length, take}
use Rattle.std.specs.Prelude.{drop, Option, Some, None, slice_get}
use Rattle.std.specs.BTreeMap.{is_at}
use Rattle.std.specs.List.{AllByRecursion, filter_map, flat_map, enumerate_from}
use Rattle.alto_rows.proofs.WriteLemmas.{after-append}
use Rattle.alto_rows.specs.declared.key.Key.{Key}
use Rattle.alto_rows.specs.declared.resource.Resource.{Resource}
use Rattle.alto_rows.specs.Accepted.{Accepted}
use Rattle.alto_rows.specs.Order.{key_cmp}
use Rattle.alto_rows.specs.Rows.{Rows, after}
use Rattle.alto_rows.specs.Versions.{is_declared, version_of}
use Rattle.tips_graph.proofs.KeySetLemmas.{key_set_has, key_set-same}
use Rattle.tips_graph.specs.Graph.{Push}
use Rattle.tips_graph.specs.Keys.{key_set}
use Rattle.alto_book.specs.Book.{Book, state_at, rows_of, writes_in}
use Rattle.alto_book.specs.Legal.{IsLegal}
use Rattle.alto_book.specs.Numbers.{renews, touching, push_of, base_push, pushes_of, origin_of}
use Rattle.alto_book.proofs.ChangeLemmas.{has}
use Rattle.alto_book.proofs.GivenLemmas.{quiet_batch, touching-append}
use Rattle.alto_book.proofs.PlaceLemmas.{is_equal, version_of-next}
use Rattle.alto_book.proofs.StateLemmas.{good_state, state_at-all, state_at-next}
use Rattle.alto_book.proofs.TrimLemmas.{slice_get-drop}

-- ---- parts of lists

-- one element more of a list
pub take-next : {X : Type 0} (xs : List X) (n : ℕ) (x : X) → slice_get xs n ≡ Some x
    → take (suc n) xs ≡ take n xs ++ x ∷ []
take-next [] n x h = cc
take-next (first ∷ xs) zero x h =
    let same : first ≡ x = cc in
    rw same refl
take-next {X} (first ∷ xs) (suc n) x h = ap (λ (more : List X). first ∷ more) (take-next xs n x h)

-- past the end of a list there is no more
pub take-end : {X : Type 0} (xs : List X) (n : ℕ) → slice_get xs n ≡ None → take (suc n) xs ≡ take n xs
take-end [] zero h = refl
take-end [] (suc n) h = refl
take-end (first ∷ xs) zero h = cc
take-end {X} (first ∷ xs) (suc n) h = ap (λ (more : List X). first ∷ more) (take-end xs n h)

-- the first of more elements
take-take : {X : Type 0} (n m : ℕ) (xs : List X) → n ≤ m → take n (take m xs) ≡ take n xs
take-take zero m xs h = refl
take-take (suc n) zero xs h = absurd (omega arith)
take-take (suc n) (suc m) [] h = refl
take-take {X} (suc n) (suc m) (x ∷ xs) h = ap (λ (more : List X). x ∷ more) (take-take n m xs (omega arith))

-- an element of the first n is one of the list
pub slice_get-take : {X : Type 0} (xs : List X) (n k : ℕ) (x : X) → slice_get (take n xs) k ≡ Some x
    → slice_get xs k ≡ Some x
slice_get-take xs zero k x h = cc
slice_get-take [] (suc n) k x h = cc
slice_get-take (first ∷ xs) (suc n) zero x h = h
slice_get-take (first ∷ xs) (suc n) (suc k) x h = slice_get-take xs n k x h

-- what holds of each element at its place holds of all
pub all_by_places : {X : Type 0} (P : X → Type 0) (xs : List X) → ((k : ℕ) (x : X) → slice_get xs k ≡ Some x → P x)
    → AllByRecursion P xs
all_by_places P [] h = tt
all_by_places P (x ∷ xs) h = (h zero x refl, all_by_places P xs (λ k y e. h (suc k) y e))

-- the element with which what is behind the first n begins
pub slice_get-front : {X : Type 0} (xs : List X) (n : ℕ) (x : X) → take 1 (drop n xs) ≡ x ∷ [] → slice_get xs n ≡ Some x
slice_get-front [] zero x h = cc
slice_get-front [] (suc n) x h = cc
slice_get-front (first ∷ xs) zero x h =
    let same : first ≡ x = cc in
    rw same refl
slice_get-front (first ∷ xs) (suc n) x h = slice_get-front xs n x h

-- the elements numbered in two parts
pub enumerate_from-append : {X : Type 0} (start : ℕ) (xs ys : List X)
    → enumerate_from start (xs ++ ys) ≡ enumerate_from start xs ++ enumerate_from (start + length xs) ys
enumerate_from-append start [] ys = ap (λ (n : ℕ). enumerate_from n ys) (omega arith)
enumerate_from-append {X} start (x ∷ xs) ys =
    let next : start + 1 + length xs ≡ start + length (x ∷ xs) = omega arith in
    ap (λ (more : List (ℕ × X)). (start, x) ∷ more) (enumerate_from-append (start + 1) xs ys
    ∙ ap (λ (n : ℕ). enumerate_from (start + 1) xs ++ enumerate_from n ys) next)

-- ---- batches between two places

-- the batches from one place up to another
abbrev pub batches_from : Book → ℕ → ℕ → List Accepted
batches_from book low high = drop low (take high book.batches)

-- the first batches are those before a place and those from there on
pub batches_split : (book : Book) (low high : ℕ) → low ≤ high
    → take high book.batches ≡ take low book.batches ++ batches_from book low high
batches_split book low high le =
    sym (take-append-drop low (take high book.batches))
    ∙ ap (λ (front : List Accepted). front ++ batches_from book low high) (take-take low high book.batches le)

-- from a place to the next there is its batch
pub batches_one : (book : Book) (place : ℕ) (batch : Accepted) → slice_get book.batches place ≡ Some batch
    → batches_from book place (suc place) ≡ batch ∷ []
batches_one book place batch h =
    let within : place < length book.batches = slice_get_within book.batches place batch h in
    let front : length (take place book.batches) ≡ place = length-take-le place book.batches (omega arith) in
    ap (drop place) (take-next book.batches place batch h)
    ∙ (ap (λ (n : ℕ). drop n (take place book.batches ++ batch ∷ [])) (sym front)
    ∙ drop-append_seam (take place book.batches) (batch ∷ []))

-- they are those up to a place between and those from there on
pub batches_parts : (book : Book) (low middle high : ℕ) → low ≤ middle → middle ≤ high → middle ≤ length book.batches
    → batches_from book low high ≡ batches_from book low middle ++ batches_from book middle high
batches_parts book low middle high le more within =
    let front : length (take middle book.batches) ≡ middle = length-take-le middle book.batches within in
    ap (drop low) (batches_split book middle high more)
    ∙ drop-append-le low (take middle book.batches) (batches_from book middle high) (omega (arith, front, le))

-- the rows after them
pub state_at-between : (book : Book) (low high : ℕ) → low ≤ high
    → state_at book high ≡ after (state_at book low) (writes_in (batches_from book low high))
state_at-between book low high le =
    ap (λ (batches : List Accepted). after book.base (writes_in batches)) (batches_split book low high le)
    ∙ (ap (after book.base) (flat_map-append (λ (batch : Accepted). batch.writes) (take low book.batches)
    (batches_from book low high))
    ∙ after-append book.base (writes_in (take low book.batches)) (writes_in (batches_from book low high)))

-- ---- their pushes

-- the pushes of batches of which the first has this number
abbrev pub pushes_from : Book → Resource → ℕ → List Accepted → List Push
pushes_from book of start batches = filter_map (push_of book of) (enumerate_from start batches)

pub pushes_from-append : (book : Book) (of : Resource) (start : ℕ) (first second : List Accepted)
    → pushes_from book of start (first ++ second) ≡ pushes_from book of start first
    ++ pushes_from book of (start + length first) second
pushes_from-append book of start first second =
    ap (filter_map (push_of book of)) (enumerate_from-append start first second)
    ∙ filter_map-append (push_of book of) (enumerate_from start first) (enumerate_from (start + length first) second)

-- the push of one batch, where it gives a number
pub one_push : (book : Book) (of : Resource) (n : ℕ) (batch : Accepted) → renews of batch ≡ true
    → pushes_from book of n (batch ∷ [])
    ≡ record { rows = state_at book n; keys = key_set (touching of batch.writes) } ∷ []
one_push book of n batch h = rw h refl

pub no_push : (book : Book) (of : Resource) (n : ℕ) (batch : Accepted) → renews of batch ≡ false
    → pushes_from book of n (batch ∷ []) ≡ []
no_push book of n batch h = rw h refl

-- the first batches raise the version by as many pushes as come of them
pub length-pushes : (book : Book) (of : Resource) (n : ℕ) → IsLegal book
    → length (pushes_from book of 1 (take n book.batches)) + version_of book.base of ≡ version_of (state_at book n) of
length-pushes book of zero legal = omega arith
length-pushes book of (suc n) legal = by (length-pushes book of n legal) (slice_get book.batches n) refl
  where
    more : (batch : Accepted) → slice_get book.batches n ≡ Some batch
        → length (pushes_from book of 1 (take (suc n) book.batches))
        ≡ length (pushes_from book of 1 (take n book.batches))
        + length (pushes_from book of (1 + length (take n book.batches)) (batch ∷ []))
    more batch e =
        rw (take-next book.batches n batch e, pushes_from-append book of 1 (take n book.batches) (batch ∷ []))
        (length-append (pushes_from book of 1 (take n book.batches))
        (pushes_from book of (1 + length (take n book.batches)) (batch ∷ [])))

    one : length (pushes_from book of 1 (take n book.batches)) + version_of book.base of
        ≡ version_of (state_at book n) of
        → (batch : Accepted) → slice_get book.batches n ≡ Some batch → (b : Bool) → renews of batch ≡ b
        → length (pushes_from book of 1 (take (suc n) book.batches)) + version_of book.base of
        ≡ version_of (state_at book (suc n)) of
    one below batch e true r =
        let next : version_of (state_at book (suc n)) of ≡ version_of (state_at book n) of + 1 =
        version_of-next book of n batch legal e ∙ rw r refl in
        let last : length (pushes_from book of (1 + length (take n book.batches)) (batch ∷ [])) ≡ 1 =
        ap length (one_push book of (1 + length (take n book.batches)) batch r) in
        omega (arith, more batch e, next, last, below)
    one below batch e false r =
        let next : version_of (state_at book (suc n)) of ≡ version_of (state_at book n) of =
        version_of-next book of n batch legal e ∙ rw r refl in
        let last : length (pushes_from book of (1 + length (take n book.batches)) (batch ∷ [])) ≡ 0 =
        ap length (no_push book of (1 + length (take n book.batches)) batch r) in
        omega (arith, more batch e, next, last, below)

    by : length (pushes_from book of 1 (take n book.batches)) + version_of book.base of
        ≡ version_of (state_at book n) of
        → (o : Option Accepted) → slice_get book.batches n ≡ o
        → length (pushes_from book of 1 (take (suc n) book.batches)) + version_of book.base of
        ≡ version_of (state_at book (suc n)) of
    by below None e = rw (take-end book.batches n e) below
    by below (Some batch) e = one below batch e (renews of batch) refl

-- the base has a push where it shows a number
pub length-base_push : (book : Book) (of : Resource)
    → length (base_push book of) + origin_of book of ≡ version_of book.base of + 1
length-base_push book of = by (version_of book.base of == 0) refl
  where
    by : (b : Bool) → (version_of book.base of == 0) ≡ b
        → length (base_push book of) + origin_of book of ≡ version_of book.base of + 1
    by true e =
        let none : length (base_push book of) ≡ 0 = rw e refl in
        let zero_there : version_of book.base of ≡ 0 = is_equal (version_of book.base of) 0 e in
        omega (arith, none, zero_there)
    by false e =
        let one : length (base_push book of) ≡ 1 = rw e refl in
        let some : 1 ≤ version_of book.base of = positive (version_of book.base of) e in
        omega (arith, one, some)
      where
        positive : (v : ℕ) → (v == 0) ≡ false → 1 ≤ v
        positive v h = grind (arith, nat_tests)

-- the pushes of the base and of the first batches
abbrev pub pushes_upto : Book → Resource → ℕ → List Push
pushes_upto book of n = base_push book of ++ pushes_from book of 1 (take n book.batches)

-- there is one for each number from the first up to the version
pub length-pushes_upto : (book : Book) (of : Resource) (n : ℕ) → IsLegal book
    → length (pushes_upto book of n) + origin_of book of ≡ version_of (state_at book n) of + 1
length-pushes_upto book of n legal =
    omega (
      arith,
      length-append (base_push book of) (pushes_from book of 1 (take n book.batches)),
      length-base_push book of,
      length-pushes book of n legal,
    )

-- with all batches
pub length-pushes_of : (book : Book) (of : Resource) → IsLegal book
    → length (pushes_of book of) + origin_of book of ≡ version_of (rows_of book) of + 1
length-pushes_of book of legal =
    ap (λ (batches : List Accepted). length (base_push book of ++ pushes_from book of 1 batches) + origin_of book of)
    (sym (take_all (length book.batches) book.batches (omega arith)))
    ∙ (length-pushes_upto book of (length book.batches) legal
    ∙ ap (λ (rows : Rows). version_of rows of + 1) (state_at-all book))

-- what stands in the middle of three lists
middle_of : (xs ys zs : List Push) (n m : ℕ) → n ≡ length xs → m ≡ length ys → take m (drop n ((xs ++ ys) ++ zs)) ≡ ys
middle_of xs ys zs n m same long = rw (same, long, append_assoc xs ys zs, drop-append_seam xs (ys ++ zs))
    (take-append_seam ys zs)

-- the pushes of the batches between two places are those of the numbers between
pub pushes_between : (book : Book) (of : Resource) (low high : ℕ) → IsLegal book → low ≤ high
    → low ≤ length book.batches
    → take (version_of (state_at book high) of - version_of (state_at book low) of)
    (drop (version_of (state_at book low) of + 1 - origin_of book of) (pushes_of book of))
    ≡ pushes_from book of (1 + low) (batches_from book low high)
pushes_between book of low high legal le within =
    ap (λ (pushes : List Push). take (version_of (state_at book high) of - version_of (state_at book low) of)
    (drop (version_of (state_at book low) of + 1 - origin_of book of) pushes)) whole
    ∙ middle_of front middle back (version_of (state_at book low) of + 1 - origin_of book of)
    (version_of (state_at book high) of - version_of (state_at book low) of)
    (omega (arith, before)) (omega (arith, before, both, length-append front middle))
  where
    front : List Push
    front = pushes_upto book of low

    middle : List Push
    middle = pushes_from book of (1 + low) (batches_from book low high)

    back : List Push
    back = pushes_from book of (1 + length (take high book.batches)) (drop high book.batches)

    before : length front + origin_of book of ≡ version_of (state_at book low) of + 1
    before = length-pushes_upto book of low legal

    upto : pushes_upto book of high ≡ front ++ middle
    upto =
        ap (λ (batches : List Accepted). base_push book of ++ pushes_from book of 1 batches)
        (batches_split book low high le)
        ∙ (ap (λ (pushes : List Push). base_push book of ++ pushes)
        (pushes_from-append book of 1 (take low book.batches) (batches_from book low high))
        ∙ (sym (append_assoc (base_push book of) (pushes_from book of 1 (take low book.batches))
        (pushes_from book of (1 + length (take low book.batches)) (batches_from book low high)))
        ∙ ap (λ (n : ℕ). front ++ pushes_from book of (1 + n) (batches_from book low high))
        (length-take-le low book.batches within)))

    both : length (front ++ middle) + origin_of book of ≡ version_of (state_at book high) of + 1
    both = ap (λ (pushes : List Push). length pushes + origin_of book of) (sym upto)
        ∙ length-pushes_upto book of high legal

    whole : pushes_of book of ≡ (front ++ middle) ++ back
    whole =
        ap (λ (batches : List Accepted). base_push book of ++ pushes_from book of 1 batches)
        (sym (take-append-drop high book.batches))
        ∙ (ap (λ (pushes : List Push). base_push book of ++ pushes)
        (pushes_from-append book of 1 (take high book.batches) (drop high book.batches))
        ∙ (sym (append_assoc (base_push book of) (pushes_from book of 1 (take high book.batches)) back)
        ∙ ap (λ (pushes : List Push). pushes ++ back) upto))

-- ---- their keys

-- a batch that gives no number writes no key that touches the resource
abbrev pub IsQuiet : Resource → Accepted → Type 0
IsQuiet of batch = renews of batch ≡ false → touching of batch.writes ≡ []

-- the keys of pushes
abbrev pub keys_in : List Push → List Key
keys_in pushes = flat_map (λ push. push.keys) pushes

-- the keys that batches write are those of their pushes
pub has-pushes : (book : Book) (of : Resource) (start : ℕ) (batches : List Accepted) (at : Key)
    → AllByRecursion (IsQuiet of) batches
    → has at (touching of (writes_in batches)) ≡ has at (keys_in (pushes_from book of start batches))
has-pushes book of start [] at quiet = refl
has-pushes book of start (batch ∷ batches) at quiet =
    ap (has at) (touching-append of batch.writes (writes_in batches))
    ∙ (list_any-append (is_at (key_cmp at)) (touching of batch.writes) (touching of (writes_in batches))
    ∙ (ap (λ (b : Bool). has at (touching of batch.writes) || b) (has-pushes book of (start + 1) batches at quiet.1)
    ∙ by (renews of batch) refl))
  where
    by : (b : Bool) → renews of batch ≡ b
        → (has at (touching of batch.writes) || has at (keys_in (pushes_from book of (start + 1) batches)))
        ≡ has at (keys_in (pushes_from book of start (batch ∷ batches)))
    by true e =
        rw (
          e,
          list_any-append (is_at (key_cmp at)) (key_set (touching of batch.writes))
              (keys_in (pushes_from book of (start + 1) batches)),
          key_set_has (touching of batch.writes) at,
        ) refl
    by false e = rw (e, quiet.0 e) refl

-- so their sets are one
pub key_set-pushes : (book : Book) (of : Resource) (start : ℕ) (batches : List Accepted)
    → AllByRecursion (IsQuiet of) batches
    → key_set (touching of (writes_in batches)) ≡ key_set (keys_in (pushes_from book of start batches))
key_set-pushes book of start batches quiet =
    key_set-same (touching of (writes_in batches)) (keys_in (pushes_from book of start batches))
    (λ at. has-pushes book of start batches at quiet)

-- while a resource is declared, each batch is such
pub quiet_declared : (book : Book) (of : Resource) (low high : ℕ) → IsLegal book
    → ((m : ℕ) → low ≤ m → m < high → is_declared (state_at book (suc m)) of ≡ true)
    → AllByRecursion (IsQuiet of) (batches_from book low high)
quiet_declared book of low high legal declared = all_by_places (IsQuiet of) (batches_from book low high) at_place
  where
    at_place : (k : ℕ) (batch : Accepted) → slice_get (batches_from book low high) k ≡ Some batch → IsQuiet of batch
    at_place k batch e r =
        let front : slice_get (take high book.batches) (low + k) ≡ Some batch =
        sym (slice_get-drop (take high book.batches) low k) ∙ e in
        let there : slice_get book.batches (low + k) ≡ Some batch =
        slice_get-take book.batches high (low + k) batch front in
        let within : low + k < length (take high book.batches) =
        slice_get_within (take high book.batches) (low + k) batch front in
        let below : low + k < high = omega (arith, length-take high book.batches) in
        quiet_batch (state_at book (low + k)) batch of (good_state book (low + k) legal)
        (legal.each (low + k) batch there)
        (rw (state_at-next book (low + k) batch there) at (declared (low + k) (omega arith) below)) r
