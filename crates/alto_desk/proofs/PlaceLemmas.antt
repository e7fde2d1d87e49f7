-- The places of ids, and what is known of an id.
use Rattle.std.proofs.Common.{◌≡◌, ℕ, ◌+◌, ◌<◌, ◌≤◌, List, [], ◌∷◌, ◌++◌, length, map, inl, inr, refl, ap, sym, ◌∙◌}
use Rattle.std.proofs.Common.{subst, arith, suc, zero, length-append}
use Rattle.std.proofs.lemmas.Cmp.{nat_list_eq_equiv}
use Rattle.std.proofs.lemmas.List.{length-map}
use Rattle.std.proofs.lemmas.Option.{same_Some, slice_get-map, slice_get_past, slice_get_read, slice_get_within}
use Rattle.std.specs.List.{AllByRecursion, IsDistinct, enumerate_from}
use Rattle.std.specs.Prelude.{Bool, true, false, cond, ◌⊎◌, IfNone, IfSome, Option, Some, None, find, get_or}
use Rattle.std.specs.Prelude.{option_map, slice_get}
use Rattle.std.specs.Bool.{then_some}
use Rattle.alto_rows.specs.Accepted.{Accepted}
use Rattle.alto_rows.specs.Order.{same_name}
use Rattle.alto_rows.proofs.TouchesLemmas.{one_name, same_name_itself, same_name_ties}
use Rattle.alto_book.specs.Acceptance.{known}
use Rattle.alto_book.specs.Book.{Kept, kept_of}
use Rattle.base_code.specs.Bases.{KeptData}
use Rattle.alto_desk.specs.Ledger.{ArePlaced, HasPut, Places, kept_in, place_of, receipt_of}

-- what is kept of the batch of an id, the numbers beginning with this one
abbrev known_from : ℕ → List Kept → List ℕ → Option (ℕ × Kept)
known_from start kept id = find (λ numbered. same_name numbered.1.id id) (enumerate_from start kept)

-- ---- what is known

-- an id that isn't at any place isn't known
none_known : (start : ℕ) (kept : List Kept) (id : List ℕ)
    → ((n : ℕ) (one : Kept) → slice_get kept n ≡ Some one → same_name one.id id ≡ false)
    → known_from start kept id ≡ None
none_known start [] id apart = refl
none_known start (one ∷ kept) id apart =
    rw (apart 0 one refl) (none_known (start + 1) kept id (λ n other h. apart (suc n) other h))

-- and the other way round
apart_from_known : (start : ℕ) (kept : List Kept) (id : List ℕ) → known_from start kept id ≡ None
    → (n : ℕ) (one : Kept) → slice_get kept n ≡ Some one → same_name one.id id ≡ false
apart_from_known start [] id none n one h = cc
apart_from_known start (first ∷ kept) id none n one h =
    by (apart_from_known (start + 1) kept id) (same_name first.id id) refl none n h
  where
    by : (known_from (start + 1) kept id ≡ None
        → (n : ℕ) (one : Kept) → slice_get kept n ≡ Some one → same_name one.id id ≡ false)
        → (b : Bool) → same_name first.id id ≡ b
        → cond b (Some (start, first)) (known_from (start + 1) kept id) ≡ None
        → (n : ℕ) → slice_get (first ∷ kept) n ≡ Some one → same_name one.id id ≡ false
    by below true e none n h = cc
    by below false e none zero h = rw (← same_Some first one h) e
    by below false e none (suc n) h = below none n one h

-- an id that is at one place alone is known by it
one_known : (start : ℕ) (kept : List Kept) (id : List ℕ) (place : ℕ) (one : Kept) → slice_get kept place ≡ Some one
    → same_name one.id id ≡ true
    → ((n : ℕ) (other : Kept) → slice_get kept n ≡ Some other → same_name other.id id ≡ true → n ≡ place)
    → known_from start kept id ≡ Some (start + place, one)
one_known start [] id place one h same alone = cc
one_known start (first ∷ kept) id zero one h same alone =
    rw (same_Some first one h, same) (ap (λ (n : ℕ). Some (n, one)) (omega arith))
one_known start (first ∷ kept) id (suc place) one h same alone =
    by (one_known (start + 1) kept id place one h same below) (same_name first.id id) refl
  where
    below : (n : ℕ) (other : Kept) → slice_get kept n ≡ Some other → same_name other.id id ≡ true → n ≡ place
    below n other there ties = let next : suc n ≡ suc place = alone (suc n) other there ties in omega arith

    by : known_from (start + 1) kept id ≡ Some (start + 1 + place, one) → (b : Bool) → same_name first.id id ≡ b
        → cond b (Some (start, first)) (known_from (start + 1) kept id) ≡ Some (start + suc place, one)
    by there true e = let never : zero ≡ suc place = alone zero first refl e in absurd (omega arith)
    by there false e = there ∙ ap (λ (n : ℕ). Some (n, one)) (omega arith)

-- ---- what the places tell

-- the only place of an id that is kept is that which it has
only_place : (kept : List Kept) (places : Places) (id : List ℕ) (place : ℕ) → ArePlaced kept places
    → place_of places id ≡ Some place
    → (n : ℕ) (one : Kept) → slice_get kept n ≡ Some one → same_name one.id id ≡ true → n ≡ place
only_place kept places id place placed here n one h same =
    same_Some n place (sym (placed n one h) ∙ (ap (place_of places) (one_name one.id id same) ∙ here))

-- an id without a place isn't known
pub unknown_unplaced : (kept : List Kept) (places : Places) (id : List ℕ) → ArePlaced kept places
    → place_of places id ≡ None → known kept id ≡ None
unknown_unplaced kept places id placed none = none_known 1 kept id (λ n one h. by one n h (same_name one.id id) refl)
  where
    by : (one : Kept) (n : ℕ) → slice_get kept n ≡ Some one → (b : Bool) → same_name one.id id ≡ b
        → same_name one.id id ≡ false
    by one n h true e = let there = placed n one h in let same = one_name one.id id e in cc
    by one n h false e = e

-- nor is one at whose place another stands, or none
pub unknown_elsewhere : (kept : List Kept) (places : Places) (id : List ℕ) (place : ℕ) → ArePlaced kept places
    → place_of places id ≡ Some place
    → IfSome (slice_get kept place) (λ one. same_name one.id id ≡ false) → known kept id ≡ None
unknown_elsewhere kept places id place placed here other =
    none_known 1 kept id (λ n one h. by one n h (same_name one.id id) refl)
  where
    by : (one : Kept) (n : ℕ) → slice_get kept n ≡ Some one → (b : Bool) → same_name one.id id ≡ b
        → same_name one.id id ≡ false
    by one n h true e =
        let there = ap (slice_get kept) (sym (only_place kept places id place placed here n one h e)) ∙ h in
        subst (λ (at : Option Kept). IfSome at (λ (one : Kept). same_name one.id id ≡ false)) there other
    by one n h false e = e

-- one that stands at its place is
pub known_placed : (kept : List Kept) (places : Places) (place : ℕ) (one : Kept) → ArePlaced kept places
    → place_of places one.id ≡ Some place → slice_get kept place ≡ Some one → known kept one.id ≡ Some (place + 1, one)
known_placed kept places place one placed here h =
    one_known 1 kept one.id place one h (same_name_itself one.id) (only_place kept places one.id place placed here)
    ∙ ap (λ (n : ℕ). Some (n, one)) (omega arith)

-- ---- one place more

-- an id has the place that it is given
pub put_here : (earlier later : Places) (id : List ℕ) (place : ℕ) → HasPut earlier later id place
    → place_of later id ≡ Some place
put_here earlier later id place put =
    put id ∙ ap (λ (b : Bool). cond b (Some place) (place_of earlier id))
    (sym (same_name_ties id id) ∙ same_name_itself id)

-- and the others have those that they had
put_elsewhere : (earlier later : Places) (id : List ℕ) (place : ℕ) (other : List ℕ) → HasPut earlier later id place
    → same_name other id ≡ false → place_of later other ≡ place_of earlier other
put_elsewhere earlier later id place other put apart =
    put other ∙ ap (λ (b : Bool). cond b (Some place) (place_of earlier other))
    (sym (same_name_ties id other) ∙ (nat_list_eq_equiv.symm id other ∙ apart))

-- so a new id leaves those that are kept their places
pub placed_still : (kept : List Kept) (earlier later : Places) (id : List ℕ) (place : ℕ) → ArePlaced kept earlier
    → known kept id ≡ None → HasPut earlier later id place → ArePlaced kept later
placed_still kept earlier later id place placed new put n one h =
    put_elsewhere earlier later id place one.id put (apart_from_known 1 kept id new n one h) ∙ placed n one h

-- what stands at a place of a list with one more
before_or_last : {A : Type 0} (xs : List A) (last x : A) (n : ℕ) → slice_get (xs ++ last ∷ []) n ≡ Some x
    → (slice_get xs n ≡ Some x) ⊎ ((n ≡ length xs) × (last ≡ x))
before_or_last [] last x zero h = inr (refl, same_Some last x h)
before_or_last [] last x (suc n) h = cc
before_or_last (y ∷ xs) last x zero h = inl h
before_or_last (y ∷ xs) last x (suc n) h = elim (before_or_last xs last x n h) [
  | inl there ↦ inl there
  | inr end ↦ inr (ap (λ (k : ℕ). suc k) end.0, end.1)
]

-- one more has its place where its id has the next
pub placed_more : (kept : List Kept) (last : Kept) (places : Places) → ArePlaced kept places
    → place_of places last.id ≡ Some (length kept) → ArePlaced (kept ++ last ∷ []) places
placed_more kept last places placed next n one h = elim (before_or_last kept last one n h) [
  | inl there ↦ placed n one there
  | inr end ↦ rw (← end.1, end.0) next
]

-- ---- place after place

-- what is kept before this place has its places
abbrev pub ArePlacedTo : ℕ → List Kept → Places → Type 0
ArePlacedTo end kept places =
    (n : ℕ) (one : Kept) → n < end → slice_get kept n ≡ Some one → place_of places one.id ≡ Some n

placed_all : (end : ℕ) (kept : List Kept) (places : Places) → ArePlacedTo end kept places → length kept ≤ end
    → ArePlaced kept places
placed_all end kept places placed all n one h =
    let within : n < length kept = slice_get_within kept n one h in placed n one (omega arith) h

-- what holds of all holds at each place
all_at : (P : List ℕ → Type 0) (kept : List Kept) (n : ℕ) (one : Kept)
    → AllByRecursion P (map (λ (k : Kept). k.id) kept) → slice_get kept n ≡ Some one → P one.id
all_at P [] n one all h = cc
all_at P (first ∷ kept) zero one all h = rw (← same_Some first one h) all.0
all_at P (first ∷ kept) (suc n) one all h = all_at P kept n one all.1 h

-- distinct ids stand at one place each
one_place : (kept : List Kept) (m n : ℕ) (first second : Kept) → IsDistinct same_name (map (λ (k : Kept). k.id) kept)
    → slice_get kept m ≡ Some first → slice_get kept n ≡ Some second → m < n → same_name first.id second.id ≡ false
unfolding IsDistinct
one_place [] m n first second distinct g h less = cc
one_place (head ∷ kept) m zero first second distinct g h less = absurd (omega arith)
one_place (head ∷ kept) zero (suc n) first second distinct g h less =
    rw (← same_Some head first g) (all_at (λ id. same_name head.id id ≡ false) kept n second distinct.0 h)
one_place (head ∷ kept) (suc m) (suc n) first second distinct g h less =
    one_place kept m n first second distinct.1 g h (omega arith)

pub placed_next : (end next : ℕ) (kept : List Kept) (earlier later : Places) (one : Kept) → next ≡ end + 1
    → IsDistinct same_name (map (λ (k : Kept). k.id) kept) → slice_get kept end ≡ Some one
    → ArePlacedTo end kept earlier → HasPut earlier later one.id end → ArePlacedTo next kept later
placed_next end next kept earlier later one e distinct at placed put n other within h =
    by (before_end n end (omega (arith, e, within)))
  where
    before_end : (n end : ℕ) → n < end + 1 → (n < end) ⊎ (n ≡ end)
    before_end zero zero less = inr refl
    before_end zero (suc end) less = inl (omega arith)
    before_end (suc n) zero less = absurd (omega arith)
    before_end (suc n) (suc end) less = elim (before_end n end (omega arith)) [
      | inl less ↦ inl (omega (arith, less))
      | inr same ↦ inr (ap (λ (k : ℕ). suc k) same)
    ]

    by : (n < end) ⊎ (n ≡ end) → place_of later other.id ≡ Some n
    by (inl less) =
        put_elsewhere earlier later one.id end other.id put (one_place kept n end other one distinct h at less)
        ∙ placed n other less h
    by (inr same) =
        let is : one ≡ other = same_Some one other (sym at ∙ (ap (slice_get kept) (sym same) ∙ h)) in
        rw (← is, same) (put_here earlier later one.id end put)

-- ---- receipts and batches

-- a place in the first of two lists
get_first : {A B : Type 0} (f : A → B) (xs : List A) (ys : List B) (n : ℕ) (x : A) → slice_get xs n ≡ Some x
    → slice_get (map f xs ++ ys) n ≡ Some (f x)
get_first f [] ys n x h = cc
get_first f (first ∷ xs) ys zero x h = ap (λ (y : _). Some (f y)) (same_Some first x h)
get_first f (first ∷ xs) ys (suc n) x h = get_first f xs ys n x h

-- a place in the second
get_second : {A B : Type 0} (f : A → B) (xs : List A) (ys : List B) (n place : ℕ) → place ≡ length xs + n
    → slice_get (map f xs ++ ys) place ≡ slice_get ys n
get_second f [] ys n place e = ap (slice_get ys) (omega (arith, e))
get_second f (first ∷ xs) ys n zero e = absurd (omega (arith, e))
get_second f (first ∷ xs) ys n (suc place) e = get_second f xs ys n place (omega (arith, e))

-- what is kept at the place of a receipt
pub in_receipts : (receipts : List KeptData) (batches : List Accepted) (place : ℕ) (kept : KeptData)
    → place < length receipts → kept ≡ get_or receipts place kept
    → slice_get (kept_in receipts batches) place ≡ Some (receipt_of kept)
in_receipts receipts batches place kept within is =
    get_first receipt_of receipts (map kept_of batches) place kept
    (slice_get_read receipts (length receipts) place kept refl within is)

-- at that of a batch
pub in_batches : {A : Type 0} (f : A → Accepted) (receipts : List KeptData) (batches : List A) (n place : ℕ) (x : A)
    → place ≡ length receipts + n → n < length batches → x ≡ get_or batches n x
    → slice_get (kept_in receipts (map f batches)) place ≡ Some (kept_of (f x))
in_batches f receipts batches n place x e within is =
    get_second receipt_of receipts (map kept_of (map f batches)) n place e
    ∙ (slice_get-map kept_of (map f batches) n
    ∙ ap (option_map kept_of) (slice_get-map f batches n
    ∙ ap (option_map f) (slice_get_read batches (length batches) n x refl within is)))

-- how much is kept
length-kept_in : {A : Type 0} (f : A → Accepted) (receipts : List KeptData) (batches : List A)
    → length (kept_in receipts (map f batches)) ≡ length receipts + length batches
length-kept_in f receipts batches =
    let parts = length-append (map receipt_of receipts) (map kept_of (map f batches)) in
    omega (arith, parts, length-map receipts receipt_of, length-map (map f batches) kept_of, length-map batches f)

-- and nothing behind
pub past_batches : {A : Type 0} (f : A → Accepted) (receipts : List KeptData) (batches : List A) (place : ℕ)
    → length receipts + length batches ≤ place → slice_get (kept_in receipts (map f batches)) place ≡ None
past_batches f receipts batches place past =
    slice_get_past (kept_in receipts (map f batches)) place (omega (arith, past, length-kept_in f receipts batches))

pub all_placed : {A : Type 0} (f : A → Accepted) (receipts : List KeptData) (batches : List A) (end : ℕ)
    (places : Places)
    → ArePlacedTo end (kept_in receipts (map f batches)) places → length receipts + length batches ≤ end
    → ArePlaced (kept_in receipts (map f batches)) places
all_placed f receipts batches end places placed past =
    placed_all end (kept_in receipts (map f batches)) places placed
    (omega (arith, past, length-kept_in f receipts batches))

-- ---- what is seen at a place

-- what is seen at a place, where it is of an id
pub seen_if : {F : Type 0} (seen : F → Kept) (is : Bool) (x : F) (found : Option F) (at : Option Kept) (one : Kept)
    (id : List ℕ) → found ≡ then_some is x → is ≡ same_name one.id id → at ≡ Some one → (one.id ≡ id → one ≡ seen x)
    → IfSome found (λ f. at ≡ Some (seen f))
seen_if seen true x found at one id told same there sees =
    rw told (there ∙ ap (λ (k : Kept). Some k) (sees (one_name one.id id (sym same))))
seen_if seen false x found at one id told same there sees = rw told tt

pub other_if : {F : Type 0} (is : Bool) (x : F) (found : Option F) (at : Option Kept) (one : Kept) (id : List ℕ)
    → found ≡ then_some is x → is ≡ same_name one.id id → at ≡ Some one
    → IfNone found (IfSome at (λ k. same_name k.id id ≡ false))
other_if true x found at one id told same there = rw told tt
other_if false x found at one id told same there = rw (told, there) (sym same)

-- what is known, from what is seen at the place
pub known_seen : {F : Type 0} (number : F → ℕ) (seen : F → Kept) (found : Option F) (kept : List Kept) (places : Places)
    (id : List ℕ) (place : ℕ) → ArePlaced kept places → Some place ≡ place_of places id
    → IfSome found (λ f. number f ≡ place + 1) → IfSome found (λ f. slice_get kept place ≡ Some (seen f))
    → IfNone found (IfSome (slice_get kept place) (λ k. same_name k.id id ≡ false))
    → ((f : F) → (seen f).id ≡ id)
    → option_map (λ f. (number f, seen f)) found ≡ known kept id
known_seen number seen (Some f) kept places id place placed here count there other own =
    ap (λ (n : ℕ). Some (n, seen f)) count
    ∙ (sym (known_placed kept places place (seen f) placed (ap (place_of places) (own f) ∙ sym here) there)
    ∙ ap (known kept) (own f))
known_seen number seen None kept places id place placed here count there other own =
    sym (unknown_elsewhere kept places id place placed (sym here) other)
