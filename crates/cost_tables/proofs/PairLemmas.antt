-- Names and costs in two lists of one length, told as a list of pairs.
use Rattle.std.proofs.Common.{◌≡◌, ℕ, zero, suc, ◌<◌, ◌≤◌, refl, ap, ap₂, sym, ◌∙◌, append_assoc, arith}
use Rattle.std.proofs.lemmas.Bool.{and_parts}
use Rattle.std.proofs.lemmas.List.{map-append}
use Rattle.std.proofs.Math.ListN.{get_or-map}
use Rattle.std.proofs.lemmas.Map.Entries.{length-keys_of}
use Rattle.std.proofs.lemmas.Option.{slice_get_past}
use Rattle.std.specs.Cmp.Lexicographic.{pointwise}
use Rattle.std.specs.Prelude.{true, List, [], ◌∷◌, ◌++◌, Option, Some, None, Result, Ok, Err, length}
use Rattle.std.specs.Prelude.{option_map, slice_get, zip}
use Rattle.std.specs.List.{HoldsAt, filter_map}
use Rattle.std.specs.List.Sorted.{IsBinarySearchResult, IsNonDecreasingBy, IsPartitionPoint, IsSearchInRange}
use Rattle.std.specs.List.Sorted.{IsStrictlySortedBy}
use Rattle.std.specs.Map.{keys_of}
use Rattle.std.specs.Ordering.{ordering_index}
use Rattle.std.specs.declared.cmp.Ordering.{Ordering}
use Rattle.std.specs.declared.cmp.Ordering.TheVariants.{Less, Equal, Greater}
use Rattle.alto_rows.specs.declared.key.Key.{Key}
use Rattle.alto_rows.specs.declared.value.Value.{Value}
use Rattle.alto_rows.specs.Order.{name_cmp, same_name}
use Rattle.alto_rows.specs.Rows.{Rows}
use Rattle.alto_rows.proofs.TouchesLemmas.{one_name}
use Rattle.cost_tables.specs.Lists.{ArePlaces, IsPlace}
use Rattle.cost_tables.specs.Tables.{Costs, Name, cost_given, cost_to}
use Rattle.cost_tables.proofs.FromLemmas.{cost_to-place}
use Rattle.shared_list.proofs.SearchLemmas.{found, lookup_from_search}

-- a pair more
pub zip_push : (names : List Name) (costs : List ℕ) (name : Name) (cost : ℕ) → length costs ≡ length names
    → zip (names ++ name ∷ []) (costs ++ cost ∷ []) ≡ zip names costs ++ (name, cost) ∷ []
zip_push [] [] name cost even = refl
zip_push [] (first ∷ costs) name cost even = absurd (omega arith)
zip_push (first ∷ names) [] name cost even = absurd (omega arith)
zip_push (first ∷ names) (one ∷ costs) name cost even =
    ap (λ more. (first, one) ∷ more) (zip_push names costs name cost (omega arith))

pub zip_none : (names : List Name) → zip {X = ℕ} names [] ≡ []
zip_none [] = refl
zip_none (name ∷ names) = refl

-- one at the next place of the names
pub zip_next : (names : List Name) (costs more : List ℕ) (name : Name) (cost : ℕ)
    → slice_get names (length costs) ≡ Some name → more ≡ costs ++ cost ∷ []
    → zip names more ≡ zip names costs ++ (name, cost) ∷ []
zip_next names costs more name cost next is = ap (zip names) is ∙ by names costs next
  where
    by : (names : List Name) (costs : List ℕ) → slice_get names (length costs) ≡ Some name
        → zip names (costs ++ cost ∷ []) ≡ zip names costs ++ (name, cost) ∷ []
    by [] [] next = cc
    by [] (one ∷ costs) next = cc
    by (first ∷ names) [] next =
        let same : first ≡ name = cc in
        ap (λ (k : Name). (k, cost) ∷ zip names []) same
        ∙ ap (λ (rest : Costs). (name, cost) ∷ rest) (zip_none names)
    by (first ∷ names) (one ∷ costs) next = ap (λ more. (first, one) ∷ more) (by names costs next)

-- it is among them
pub next_within : (names : List Name) (costs more : List ℕ) (name : Name) (cost : ℕ)
    → slice_get names (length costs) ≡ Some name → more ≡ costs ++ cost ∷ [] → length more ≤ length names
next_within names costs more name cost next is = rw is (by names costs next)
  where
    by : (names : List Name) (costs : List ℕ) → slice_get names (length costs) ≡ Some name
        → length (costs ++ cost ∷ []) ≤ length names
    by [] [] next = cc
    by [] (one ∷ costs) next = cc
    by (first ∷ names) [] next = omega arith
    by (first ∷ names) (one ∷ costs) next = let within = by names costs next in omega arith

-- what a walk gives with one row less, which is of the next name
pub walked_next : (names : List Name) (costs more : List ℕ) (name : Name) (cost : ℕ) (row : Key × Value)
    (rest rows : Rows) (whole : Costs)
    → rows ≡ row ∷ rest → cost_given row ≡ Some (name, cost) → slice_get names (length costs) ≡ Some name
    → more ≡ costs ++ cost ∷ []
    → zip names costs ++ filter_map cost_given rows ≡ whole → zip names more ++ filter_map cost_given rest ≡ whole
walked_next names costs more name cost row rest rows whole steps given next is all =
    rw (zip_next names costs more name cost next is)
    (append_assoc (zip names costs) ((name, cost) ∷ []) (filter_map cost_given rest)
    ∙ (rw (steps, given) at all))

-- their names
pub keys_of-zip : (names : List Name) (costs : List ℕ) → length costs ≡ length names → keys_of (zip names costs) ≡ names
keys_of-zip [] [] even = refl
keys_of-zip [] (cost ∷ costs) even = absurd (omega arith)
keys_of-zip (name ∷ names) [] even = absurd (omega arith)
keys_of-zip (name ∷ names) (cost ∷ costs) even = ap (λ more. name ∷ more) (keys_of-zip names costs (omega arith))

-- their number
pub length-zip : (names : List Name) (costs : List ℕ) → length costs ≡ length names
    → length (zip names costs) ≡ length costs
length-zip names costs even =
    sym (length-keys_of (zip names costs)) ∙ (ap length (keys_of-zip names costs even) ∙ sym even)

-- the pair at a place
pub slice_get-zip : (names : List Name) (costs : List ℕ) (place : ℕ) (name : Name) (cost : ℕ)
    → slice_get names place ≡ Some name → slice_get costs place ≡ Some cost
    → slice_get (zip names costs) place ≡ Some (name, cost)
slice_get-zip [] costs place name cost a b = cc
slice_get-zip (first ∷ names) [] place name cost a b = cc
slice_get-zip (first ∷ names) (one ∷ costs) zero name cost a b =
    let first_is : first ≡ name = cc in
    let one_is : one ≡ cost = cc in
    rw (first_is, one_is) refl
slice_get-zip (first ∷ names) (one ∷ costs) (suc place) name cost a b = slice_get-zip names costs place name cost a b

-- the names of no costs rise
pub none_rise : IsStrictlySortedBy name_cmp []
unfolding IsStrictlySortedBy
none_rise = tt

-- whatever stands at a place of both
abbrev pub both_of : Option Name → Option ℕ → Option (Name × ℕ)
both_of (Some name) (Some cost) = Some (name, cost)
both_of _ _ = None

pub slice_get-both : (names : List Name) (costs : List ℕ) (place : ℕ) → length costs ≡ length names
    → both_of (slice_get names place) (slice_get costs place) ≡ slice_get (zip names costs) place
slice_get-both [] [] place even = refl
slice_get-both [] (one ∷ costs) place even = absurd (omega arith)
slice_get-both (first ∷ names) [] place even = absurd (omega arith)
slice_get-both (first ∷ names) (one ∷ costs) zero even = refl
slice_get-both (first ∷ names) (one ∷ costs) (suc place) even = slice_get-both names costs place (omega arith)

pub both_of-none : (name : Option Name) → both_of name None ≡ None
both_of-none None = refl
both_of-none (Some name) = refl

pub pair_at : (names : List Name) (costs : List ℕ) (place : ℕ) (name : Option Name) (cost : Option ℕ)
    → length costs ≡ length names → name ≡ slice_get names place → cost ≡ slice_get costs place
    → both_of name cost ≡ slice_get (zip names costs) place
pair_at names costs place name cost even is beside = ap₂ both_of is beside ∙ slice_get-both names costs place even

-- names that are the same one by one are one list
pub one_list : (xs ys : List Name) → pointwise same_name xs ys ≡ true → xs ≡ ys
one_list [] [] same = refl
one_list [] (y ∷ ys) same = cc
one_list (x ∷ xs) [] same = cc
one_list (x ∷ xs) (y ∷ ys) same =
    let both = and_parts (same_name x y) (pointwise same_name xs ys) same in
    rw (one_name x y both.0, one_list xs ys both.1) refl

-- ---- a search among the names of pairs

-- what holds of the name at a place holds there of the pair's
holds_back : (P : Name → Type 0) (costs : Costs) (i : ℕ) → i < length costs → HoldsAt P (keys_of costs) i
    → HoldsAt (λ cost. P cost.0) costs i
holds_back P [] i within h = absurd (omega arith)
holds_back P (cost ∷ costs) zero within h = λ d. h cost.0
holds_back P (cost ∷ costs) (suc i) within h = λ d. holds_back P costs i (omega arith) (λ name. h name) d

-- a search among the names is one among the pairs
pub search_back : (ord : Name → Ordering) (costs : Costs) (r : Result ℕ ℕ) → IsSearchInRange r (length costs)
    → IsBinarySearchResult ord (keys_of costs) r → IsBinarySearchResult (λ cost. ord cost.0) costs r
search_back ord costs (Ok i) within found = holds_back (λ name. ord name ≡ Equal) costs i within found
search_back ord costs (Err i) within found = λ rises. by (found (forth rises))
  where
    forth : IsNonDecreasingBy (λ cost. ordering_index (ord cost.0)) costs
        → IsNonDecreasingBy (λ name. ordering_index (ord name)) (keys_of costs)
    forth rises j k d below inside =
        let there : k < length costs = rw (length-keys_of costs) at inside in
        let both = rises j k (d, 0) below there in
        rw (
          get_or-map (λ (cost : Name × ℕ). cost.0) costs j (d, 0),
          get_or-map (λ (cost : Name × ℕ). cost.0) costs k (d, 0),
        ) both

    by : IsPartitionPoint (λ name. ord name ≡ Less) (λ name. ord name ≡ Greater) (keys_of costs) i
        → IsPartitionPoint (λ cost. ord cost.0 ≡ Less) (λ cost. ord cost.0 ≡ Greater) costs i
    by point = (
      (λ k d low high. holds_back (λ name. ord name ≡ Less) costs k (omega arith) (λ name. point.0 k name low high) d),
      (λ k d low high.
          let inside : k < length (keys_of costs) = rw (length-keys_of costs) high in
          holds_back (λ name. ord name ≡ Greater) costs k high (λ name. point.1 k name low inside) d),
    )

-- ---- what the costs of names tell

-- a cost beside a name is what is told of the name
pub cost_beside : (names : List Name) (costs : List ℕ) (told : Costs) (place : ℕ) (name : Name) (cost : ℕ) (dst : Name)
    → zip names costs ≡ told → length costs ≡ length names → IsStrictlySortedBy name_cmp names
    → slice_get names place ≡ Some name → slice_get costs place ≡ Some cost → same_name name dst ≡ true
    → cost_to told dst ≡ Some cost
cost_beside names costs told place name cost dst is even rise there beside same =
    let in_order : IsStrictlySortedBy name_cmp (keys_of (zip names costs)) = rw (keys_of-zip names costs even) rise in
    rw (← is)
    (cost_to-place (zip names costs) place (name, cost) dst in_order
    (slice_get-zip names costs place name cost there beside) same)

-- what a search among the names finds is what is told
pub cost_searched : (names : List Name) (costs : List ℕ) (told : Costs) (dst : Name) (r : Result ℕ ℕ)
    → zip names costs ≡ told → length costs ≡ length names → IsStrictlySortedBy name_cmp names
    → IsSearchInRange r (length names) → IsBinarySearchResult (λ name. name_cmp name dst) names r
    → cost_to told dst ≡ found (zip names costs) r
cost_searched names costs told dst r is even rise within searched =
    let keys : keys_of (zip names costs) ≡ names = keys_of-zip names costs even in
    let count : length (zip names costs) ≡ length names = length-zip names costs even ∙ even in
    rw (← is)
    (lookup_from_search (zip names costs) dst r (rw keys rise) (rw count within)
    (search_back (λ name. name_cmp name dst) (zip names costs) r (rw count within) (rw keys searched)))

-- ---- places

-- the cost at a place stands in its pair
pub slice_get-costs : (names : List Name) (costs : List ℕ) (place : ℕ) → length costs ≡ length names
    → slice_get costs place ≡ option_map (λ cost. cost.1) (slice_get (zip names costs) place)
slice_get-costs [] [] place even = refl
slice_get-costs [] (first ∷ costs) place even = absurd (omega arith)
slice_get-costs (name ∷ names) [] place even = absurd (omega arith)
slice_get-costs (name ∷ names) (first ∷ costs) zero even = refl
slice_get-costs (name ∷ names) (first ∷ costs) (suc place) even = slice_get-costs names costs place (omega arith)

-- beside a name there is a cost
none_beside : (names : List Name) (costs : List ℕ) (place : ℕ) (name : Name) → length costs ≡ length names
    → slice_get names place ≡ Some name → slice_get costs place ≡ None → ⊥
none_beside [] costs place name even there none = cc
none_beside (first ∷ names) [] place name even there none = omega arith
none_beside (first ∷ names) (one ∷ costs) zero name even there none = cc
none_beside (first ∷ names) (one ∷ costs) (suc place) name even there none =
    none_beside names costs place name (omega arith) there none

-- a place where a destination stands is its place
pub place_of_name : (names : List Name) (place : ℕ) (name dst : Name) → IsStrictlySortedBy name_cmp names
    → slice_get names place ≡ Some name → same_name name dst ≡ true → IsPlace names dst place
place_of_name names place name dst rise there same costs even = by (slice_get costs place) refl
  where
    by : (found : Option ℕ) → slice_get costs place ≡ found → slice_get costs place ≡ cost_to (zip names costs) dst
    by (Some cost) beside =
        beside
        ∙ sym (cost_beside names costs (zip names costs) place name cost dst refl even rise there beside same)
    by None beside = absurd (none_beside names costs place name even there beside)

-- and so is that at which a search for it ends
pub place_found : (names : List Name) (dst : Name) (r : Result ℕ ℕ) (place : ℕ) → IsStrictlySortedBy name_cmp names
    → IsSearchInRange r (length names) → IsBinarySearchResult (λ name. name_cmp name dst) names r → r ≡ Ok place
    → IsPlace names dst place
place_found names dst r place rise within searched is costs even =
    slice_get-costs names costs place even
    ∙ sym (cost_searched names costs (zip names costs) dst r refl even rise within searched
    ∙ ap (found (zip names costs)) is)

-- past all names where it ends at none
pub place_missed : (names : List Name) (dst : Name) (r : Result ℕ ℕ) (place : ℕ) → IsStrictlySortedBy name_cmp names
    → IsSearchInRange r (length names) → IsBinarySearchResult (λ name. name_cmp name dst) names r → r ≡ Err place
    → IsPlace names dst (length names)
place_missed names dst r place rise within searched is costs even =
    slice_get_past costs (length names) (omega arith)
    ∙ sym (cost_searched names costs (zip names costs) dst r refl even rise within searched
    ∙ ap (found (zip names costs)) is)

-- one destination more with its place
pub places_more : (names dsts : List Name) (places : List ℕ) (dst : Name) (place : ℕ) → ArePlaces names dsts places
    → IsPlace names dst place → ArePlaces names (dsts ++ dst ∷ []) (places ++ place ∷ [])
places_more names dsts places dst place right one costs even =
    rw (
      map-append (slice_get costs) places (place ∷ []),
      map-append (cost_to (zip names costs)) dsts (dst ∷ []),
      right costs even,
      one costs even,
    ) refl
