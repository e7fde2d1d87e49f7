-- Where the item of a name is found among runs of items in order.
use Rattle.std.proofs.Common.{◌≡◌, ◌∙◌, refl, ap}
use Rattle.std.proofs.lemmas.Simd.{map-map}
use Rattle.std.proofs.lemmas.Option.{slice_get-map}
use Rattle.std.proofs.lemmas.Map.Lookups.{exact_bytes}
use Rattle.std.specs.List.{flat_map}
use Rattle.std.specs.List.Sorted.{IsBinarySearchResult, IsSearchInRange, IsStrictlySortedBy}
use Rattle.std.specs.Map.{keys_of}
use Rattle.std.specs.Option.{option_or}
use Rattle.std.specs.Result.{result_ok}
use Rattle.std.specs.Prelude.{ℕ, zero, suc, true, false, List, [], ◌∷◌, ◌++◌, Option, Some, None, Ok, Err, Result}
use Rattle.std.specs.Prelude.{length, map, slice_get}
use Rattle.std.specs.declared.cmp.Ordering.{Ordering}
use Rattle.std.specs.declared.cmp.Ordering.TheVariants.{Less, Equal, Greater}
use Rattle.shared_list.specs.Order.{Name, name_cmp, InOrder, ends_before, named, item_of}
use Rattle.shared_list.proofs.ChangedLemmas.{item_of-append}
use Rattle.shared_list.proofs.OrderLemmas.{AreAbove, AreBefore, AreBehind, above_first, back_in_order, front_in_order}
use Rattle.shared_list.proofs.OrderLemmas.{greater_back, less_back, more_behind, rest_in_order, run_before}
use Rattle.shared_list.proofs.SearchLemmas.{found, lookup_at, lookup_from_search-map}

module _ {X : Type 0} (name : X → Name) where
  -- ---- one run

  keys_rise : (items : List X) → InOrder name items → IsStrictlySortedBy name_cmp (keys_of (named name items))
  keys_rise items s = rw (map-map (λ (entry : Name × X). entry.0) (λ item. (name item, item)) items) s

  -- an item that stands at a place is that of its name
  pub item_at : (items : List X) (q : Name) (place : ℕ) (item : X) → InOrder name items
      → slice_get items place ≡ Some item → name item ≡ q → item_of name items q ≡ Some item
  item_at items q place item s at same =
      lookup_at (named name items) q place (name item, item) (keys_rise items s)
      (rw (slice_get-map {B = Name × X} (λ item. (name item, item)) items place, at) refl) same

  -- what a binary search finds is the item of the name
  pub item_searched : {Y : Type 0} (f : Y → X) (items : List Y) (q : Name) (r : Result ℕ ℕ)
      → InOrder name (map f items) → IsSearchInRange r (length items)
      → IsBinarySearchResult (λ item. name_cmp (name (f item)) q) items r
      → item_of name (map f items) q ≡ found (named name (map f items)) r
  item_searched f items q r s within search_result =
      let same : named name (map f items) ≡ map (λ item. (name (f item), f item)) items =
      map-map (λ item. (name item, item)) f items in
      rw same (lookup_from_search-map (λ item. (name (f item), f item)) items q r
      (rw same at (keys_rise (map f items) s)) within search_result)

  -- ---- items before a name, and behind it

  none_before : (q : Name) (items : List X) → AreBefore name q items → item_of name items q ≡ None
  none_before q [] h = refl
  none_before q (item ∷ items) h = rw (less_back (name item) q h.0) (none_before q items h.1)

  none_behind : (q : Name) (items : List X) → AreBehind name q items → item_of name items q ≡ None
  none_behind q [] h = refl
  none_behind q (item ∷ items) h = rw (greater_back (name item) q h.0) (none_behind q items h.1)

  pub none_above : (q : Name) (items : List X) → AreAbove name q items → item_of name items q ≡ None
  none_above q [] h = refl
  none_above q (item ∷ items) h = rw h.0 (none_above q items h.1)

  or_none : (found : Option X) → option_or found None ≡ found
  or_none None = refl
  or_none (Some item) = refl

  -- an item behind a run that ends before its name is found there
  pub found_later : (q : Name) (run more : List X) → InOrder name (run ++ more) → ends_before name q run ≡ true
      → item_of name (run ++ more) q ≡ item_of name more q
  found_later q run more s so =
      item_of-append name q run more
      ∙ ap (λ front. option_or front (item_of name more q))
      (none_before q run (run_before name q run (front_in_order name run more s) so))

  -- else in the run
  pub found_here : (q : Name) (run more : List X) → InOrder name (run ++ more) → ends_before name q run ≡ false
      → item_of name (run ++ more) q ≡ item_of name run q
  found_here q run more s not_so =
      item_of-append name q run more
      ∙ (ap (λ back. option_or (item_of name run q) back) (none_behind q more (more_behind name q run more s not_so))
      ∙ or_none (item_of name run q))

  -- ---- an item of some run

  -- an item that is found behind others isn't among them
  not_in_front : (q : Name) (front back : List X) (item : X) → InOrder name (front ++ back)
      → item_of name back q ≡ Some item → item_of name front q ≡ None
  not_in_front q [] back item s there = refl
  not_in_front q (first ∷ front) back item s there =
      by (name_cmp q (name first)) refl
      (not_in_front q front back item (rest_in_order name first (front ++ back) s) there)
    where
      of_back : (front : List X) → AreAbove name (name first) (front ++ back) → AreAbove name (name first) back
      of_back [] h = h
      of_back (next ∷ front) h = of_back front h.1

      by : (o : Ordering) → name_cmp q (name first) ≡ o → item_of name front q ≡ None
          → item_of name (first ∷ front) q ≡ None
      by Less e rest = rw e rest
      by Equal e rest =
          let same : q ≡ name first = exact_bytes q (name first) e in
          let none : item_of name back q ≡ None =
          none_above q back (rw same (of_back front (above_first name first (front ++ back) s))) in
          cc
      by Greater e rest = rw e rest

  pub run_in_order : {Y : Type 0} (f : Y → List X) (runs : List Y) (place : ℕ) (run : Y)
      → InOrder name (flat_map f runs) → slice_get runs place ≡ Some run → InOrder name (f run)
  run_in_order f [] place run s at = cc
  run_in_order f (first ∷ runs) zero run s at =
      let same : first ≡ run = cc in
      rw (← same) (front_in_order name (f first) (flat_map f runs) s)
  run_in_order f (first ∷ runs) (suc place) run s at =
      run_in_order f runs place run (back_in_order name (f first) (flat_map f runs) s) at

  pub found_in_run : {Y : Type 0} (f : Y → List X) (q : Name) (runs : List Y) (place : ℕ) (run : Y) (item : X)
      → InOrder name (flat_map f runs) → slice_get runs place ≡ Some run → item_of name (f run) q ≡ Some item
      → item_of name (flat_map f runs) q ≡ Some item
  found_in_run f q [] place run item s at there = cc
  found_in_run f q (first ∷ runs) zero run item s at there =
      let same : first ≡ run = cc in
      let here : item_of name (f first) q ≡ Some item = rw same there in
      item_of-append name q (f first) (flat_map f runs)
      ∙ ap (λ front. option_or front (item_of name (flat_map f runs) q)) here
  found_in_run f q (first ∷ runs) (suc place) run item s at there =
      let later : item_of name (flat_map f runs) q ≡ Some item =
      found_in_run f q runs place run item (back_in_order name (f first) (flat_map f runs) s) at there in
      item_of-append name q (f first) (flat_map f runs)
      ∙ (ap (λ front. option_or front (item_of name (flat_map f runs) q))
      (not_in_front q (f first) (flat_map f runs) item s later) ∙ later)

-- where a search ends with no place, none is found
pub none_found : {X : Type 0} (entries : List (Name × X)) (r : Result ℕ ℕ) → result_ok r ≡ None
    → found entries r ≡ None
none_found entries (Ok i) none = cc
none_found entries (Err i) none = refl

-- where it ends with one, what stands there is
pub one_found : {X : Type 0} (name : X → Name) (items : List X) (r : Result ℕ ℕ) (place : ℕ) (item : X)
    → result_ok r ≡ Some place → slice_get items place ≡ Some item → found (named name items) r ≡ Some item
one_found {X = X} name items (Ok i) place item one at =
    let same : i ≡ place = cc in
    rw (same, slice_get-map {B = Name × X} (λ item. (name item, item)) items place, at) refl
one_found name items (Err i) place item one at = cc
