-- What a binary search by name finds among entries in byte order is what a look-up finds.
use Rattle.std.proofs.Common.{◌≡◌, ◌≢◌, ℕ, zero, suc, ◌<◌, ◌≤◌, refl, arith, get_or, inl, inr}
use Rattle.std.proofs.Math.ListN.{get_or-map}
use Rattle.std.proofs.lemmas.List.{length-map}
use Rattle.std.proofs.lemmas.Bool.{cases_eq}
use Rattle.std.proofs.lemmas.Cmp.{eq_by_cmp_equiv, nat_list_cmp_total}
use Rattle.std.proofs.lemmas.Map.Entries.{length-keys_of, lookup_at_gap, lookup_from_place}
use Rattle.std.proofs.lemmas.Map.Lookups.{exact_bytes}
use Rattle.std.proofs.lemmas.Map.Keys.{IsDistinct-from_sorted, Less-from_sorted}
use Rattle.std.proofs.lemmas.Option.{get_or_from_slice_get, slice_get_cases, slice_get_within}
use Rattle.std.specs.Prelude.{List, [], ◌∷◌, Option, Some, None, Result, Ok, Err, ◌⊎◌, length, map, option_map}
use Rattle.std.specs.Prelude.{slice_get}
use Rattle.std.specs.BTreeMap.{is_at}
use Rattle.std.specs.List.{HoldsAt}
use Rattle.std.specs.List.Sorted.{IsBinarySearchResult, IsNonDecreasingBy, IsPartitionPoint, IsSearchInRange}
use Rattle.std.specs.List.Sorted.{IsStrictlySortedBy}
use Rattle.std.specs.Map.{keys_of, lookup}
use Rattle.std.specs.Ordering.{ordering_index}
use Rattle.std.specs.declared.cmp.Ordering.{Ordering}
use Rattle.std.specs.declared.cmp.Ordering.TheVariants.{Less, Equal, Greater}
use Rattle.shared_list.specs.Order.{Name, name_cmp}
use Rattle.shared_list.proofs.OrderLemmas.{less_back, greater_back}

-- along names that rise the comparison with a name doesn't fall
index_le : (low high q : Name) → name_cmp low high ≡ Less → (o : Ordering) → name_cmp high q ≡ o
    → ordering_index (name_cmp low q) ≤ ordering_index o
index_le low high q less Less e = rw (nat_list_cmp_total.trans low high q less e) (omega arith)
index_le low high q less Equal e = let same : high ≡ q = exact_bytes high q e in rw (← same, less) (omega arith)
index_le low high q less Greater e = by (name_cmp low q)
  where
    by : (o : Ordering) → ordering_index o ≤ 2
    by Less = omega arith
    by Equal = omega arith
    by Greater = omega arith

-- what a search answered, as a value: that of the entry at its place
abbrev pub found : {X : Type 0} → List (Name × X) → Result ℕ ℕ → Option X
found entries (Ok i) = option_map (λ entry. entry.1) (slice_get entries i)
found entries (Err i) = None

module _ {X : Type 0} where
  -- of two places the first has the lesser name
  rising : (entries : List (Name × X)) (i j : ℕ) (d : Name × X) → IsStrictlySortedBy name_cmp (keys_of entries) → i < j
      → j < length entries
      → name_cmp (get_or entries i d).0 (get_or entries j d).0 ≡ Less
  rising entries i j d s less within =
      let in_keys : j < length (keys_of entries) = rw (length-keys_of entries) within in
      rw (
        ← get_or-map (λ (entry : Name × X). entry.0) entries i d,
        ← get_or-map (λ (entry : Name × X). entry.0) entries j d,
      )
      (Less-from_sorted name_cmp (keys_of entries) i j d.0 s less in_keys)

  -- entries in byte order can be searched for a name
  searchable : (entries : List (Name × X)) (q : Name) → IsStrictlySortedBy name_cmp (keys_of entries)
      → IsNonDecreasingBy (λ entry. ordering_index (name_cmp entry.0 q)) entries
  searchable entries q s i j d below within = by (cases_eq i j)
    where
      by : (i ≡ j) ⊎ (i ≢ j) → ordering_index (name_cmp (get_or entries i d).0 q)
          ≤ ordering_index (name_cmp (get_or entries j d).0 q)
      by (inl same) = rw same (omega arith)
      by (inr apart) =
          let less : i < j = omega arith in
          index_le (get_or entries i d).0 (get_or entries j d).0 q (rising entries i j d s less within)
          (name_cmp (get_or entries j d).0 q) refl

  -- where a search hits, the look-up finds the value there
  hit : (entries : List (Name × X)) (q : Name) (i : ℕ) → IsStrictlySortedBy name_cmp (keys_of entries)
      → i < length entries
      → HoldsAt (λ (entry : Name × X). name_cmp entry.0 q ≡ Equal) entries i
      → lookup (is_at (name_cmp q)) entries ≡ option_map (λ (entry : Name × X). entry.1) (slice_get entries i)
  hit entries q i s within tie = by (slice_get_cases entries i).1
    where
      by : ((entry : Name × X) × (i < length entries) × (slice_get entries i ≡ Some entry)
          × (get_or entries i entry ≡ entry)) ⊎ ((length entries ≤ i) × (slice_get entries i ≡ None))
          → lookup (is_at (name_cmp q)) entries ≡ option_map (λ (entry : Name × X). entry.1) (slice_get entries i)
      by (inl p) =
          let one : p.0.0 ≡ q = exact_bytes p.0.0 q (rw p.3 at (tie p.0)) in
          let here : lookup (is_at (name_cmp p.0.0)) entries ≡ Some p.0.1 =
          lookup_from_place (eq_by_cmp_equiv nat_list_cmp_total) entries i p.0.0
          p.0.1 (IsDistinct-from_sorted name_cmp (keys_of entries) s) p.2 in
          rw (p.2, ← one) here
      by (inr p) = absurd (let past : length entries ≤ i = p.0 in omega arith)

  -- and where an entry stands anywhere
  pub lookup_at : (entries : List (Name × X)) (q : Name) (i : ℕ) (entry : Name × X)
      → IsStrictlySortedBy name_cmp (keys_of entries) → slice_get entries i ≡ Some entry → entry.0 ≡ q
      → lookup (is_at (name_cmp q)) entries ≡ Some entry.1
  lookup_at entries q i entry s there same =
      rw (← same) (lookup_from_place (eq_by_cmp_equiv nat_list_cmp_total) entries i entry.0 entry.1
      (IsDistinct-from_sorted name_cmp (keys_of entries) s) there)

  -- where it misses, the look-up finds none
  miss : (entries : List (Name × X)) (q : Name) (i : ℕ) → IsStrictlySortedBy name_cmp (keys_of entries)
      → IsPartitionPoint (λ (entry : Name × X). name_cmp entry.0 q ≡ Less) (λ (entry : Name × X). name_cmp entry.0 q
      ≡ Greater) entries i → lookup (is_at (name_cmp q)) entries ≡ None
  miss entries q i s point =
      lookup_at_gap nat_list_cmp_total q entries i s
      (λ j e less is. less_back e.0 q (rw (get_or_from_slice_get entries j e e is) at (point.0 j e (omega arith) less)))
      (λ e is. greater_back e.0 q (rw (get_or_from_slice_get entries i e e is)
      at (point.1 i e (omega arith) (slice_get_within entries i e is))))

  -- a binary search by name tells the look-up
  pub lookup_from_search : (entries : List (Name × X)) (q : Name) (r : Result ℕ ℕ)
      → IsStrictlySortedBy name_cmp (keys_of entries) → IsSearchInRange r (length entries)
      → IsBinarySearchResult (λ (entry : Name × X). name_cmp entry.0 q) entries r
      → lookup (is_at (name_cmp q)) entries ≡ found entries r
  lookup_from_search entries q (Ok i) s within search_result = hit entries q i s within search_result
  lookup_from_search entries q (Err i) s within search_result =
      miss entries q i s (search_result (searchable entries q s))

-- ---- a search among what entries are told by

module _ {X Y : Type 0} (f : Y → X) where
  -- what holds at a place holds there of what is told
  holds-map : (P : X → Type 0) (items : List Y) (i : ℕ) → i < length items → HoldsAt (λ item. P (f item)) items i
      → HoldsAt P (map f items) i
  holds-map P [] i within h = absurd (omega arith)
  holds-map P (item ∷ items) zero within h = λ d. h item
  holds-map P (item ∷ items) (suc i) within h = holds-map P items i (omega arith) (λ d. h d)

  -- a search among items is one among what they tell
  search-map : (ord : X → Ordering) (items : List Y) (r : Result ℕ ℕ) → IsSearchInRange r (length items)
      → IsBinarySearchResult (λ item. ord (f item)) items r
      → IsBinarySearchResult ord (map f items) r
  search-map ord items (Ok i) within search_result = holds-map (λ x. ord x ≡ Equal) items i within search_result
  search-map ord items (Err i) within search_result = λ rises. by (search_result (back rises))
    where
      back : IsNonDecreasingBy (λ x. ordering_index (ord x)) (map f items)
          → IsNonDecreasingBy (λ item. ordering_index (ord (f item))) items
      back rises j k d below inside =
          let inside_map : k < length (map f items) = rw (length-map items f) inside in
          let both : ordering_index (ord (get_or (map f items) j (f d)))
          ≤ ordering_index (ord (get_or (map f items) k (f d))) = rises j k (f d) below inside_map in
          rw (get_or-map f items j d, get_or-map f items k d) at both

      by : IsPartitionPoint (λ item. ord (f item) ≡ Less) (λ item. ord (f item) ≡ Greater) items i
          → IsPartitionPoint (λ x. ord x ≡ Less) (λ x. ord x ≡ Greater) (map f items) i
      by point = (
        (λ k d low high. holds-map (λ x. ord x ≡ Less) items k (omega arith) (λ y. point.0 k y low high) d),
        (λ k d low high.
            let inside : k < length items = rw (length-map items f) at high in
            holds-map (λ x. ord x ≡ Greater) items k inside (λ y. point.1 k y low inside) d),
      )

-- a binary search by name among items that tell entries tells the look-up
pub lookup_from_search-map : {X Y : Type 0} (f : Y → Name × X) (items : List Y) (q : Name) (r : Result ℕ ℕ)
    → IsStrictlySortedBy name_cmp (keys_of (map f items))
    → IsSearchInRange r (length items) → IsBinarySearchResult (λ item. name_cmp (f item).0 q) items r
    → lookup (is_at (name_cmp q)) (map f items) ≡ found (map f items) r
lookup_from_search-map f items q r s within search_result =
    lookup_from_search (map f items) q r s (rw (length-map items f) within)
    (search-map f (λ entry. name_cmp entry.0 q) items r within search_result)
