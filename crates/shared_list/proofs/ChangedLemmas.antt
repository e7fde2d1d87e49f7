-- Items in order after changes are in order, and a name has the item of its change, or else that of before.
use Rattle.std.proofs.Common.{◌≡◌, refl, ap, ap₂, sym, ◌∙◌}
use Rattle.std.proofs.lemmas.List.{append_assoc}
use Rattle.std.proofs.lemmas.List.Kept.{IsStrictlySortedBy-filter}
use Rattle.std.proofs.lemmas.Map.Entries.{lookup-filter-keys}
use Rattle.std.proofs.lemmas.Map.Keys.{sorted_tail}
use Rattle.std.proofs.lemmas.Map.Lookups.{exact_bytes}
use Rattle.std.specs.BTreeMap.{is_at}
use Rattle.std.specs.List.{AllByRecursion}
use Rattle.std.specs.List.Sorted.{IsStrictlySortedBy}
use Rattle.std.specs.Map.{keys_of, lookup}
use Rattle.std.specs.Option.{option_or, option_to_list, unwrap_or}
use Rattle.std.specs.Ordering.{is_eq, is_gt, is_lt}
use Rattle.std.specs.Prelude.{Bool, true, false, cond, List, [], ◌∷◌, ◌++◌, Option, Some, None, IfSome, filter, map}
use Rattle.std.specs.declared.cmp.Ordering.{Ordering}
use Rattle.std.specs.declared.cmp.Ordering.TheVariants.{Less, Equal, Greater}
use Rattle.shared_list.specs.Order.{Name, name_cmp, InOrder, named, item_of, before, behind}
use Rattle.shared_list.specs.Changed.{Change, with_change, changed}
use Rattle.shared_list.proofs.OrderLemmas.{AreAbove, AreBefore, above_lesser, joined_in_order}
use Rattle.shared_list.proofs.OrderLemmas.{less_both, greater_back, more_in_order, passed-before}
use Rattle.shared_list.proofs.OrderLemmas.{passed-behind}

module _ {X : Type 0} (name : X → Name) where
  -- the item of a change has its name
  abbrev pub HasName : Change X → Type 0
  HasName change = IfSome change.1 (λ item. name item ≡ change.0)

  abbrev pub HaveNames : List (Change X) → Type 0
  HaveNames changes = AllByRecursion HasName changes

  -- ---- order

  filtered : (p : Name → Bool) (items : List X) → InOrder name items
      → InOrder name (filter (λ item. p (name item)) items)
  filtered p items s = rw (map-filtered items) (IsStrictlySortedBy-filter name_cmp p (map name items) s)
    where
      map-filtered : (items : List X) → map name (filter (λ item. p (name item)) items) ≡ filter p (map name items)
      map-filtered [] = refl
      map-filtered (item ∷ items) = by (p (name item)) refl (map-filtered items)
        where
          by : (b : Bool) → p (name item) ≡ b
              → map name (filter (λ item. p (name item)) items) ≡ filter p (map name items)
              → map name (filter (λ item. p (name item)) (item ∷ items)) ≡ filter p (map name (item ∷ items))
          by true e rest = rw e (ap (λ names. name item ∷ names) rest)
          by false e rest = rw e rest

  before_less : (q : Name) (items : List X) → AreBefore name q (before name q items)
  before_less q [] = tt
  before_less q (item ∷ items) = by (name_cmp (name item) q) refl (before_less q items)
    where
      by : (o : Ordering) → name_cmp (name item) q ≡ o → AreBefore name q (before name q items)
          → AreBefore name q (before name q (item ∷ items))
      by Less e rest = rw e (e, rest)
      by Equal e rest = rw e rest
      by Greater e rest = rw e rest

  behind_above : (q : Name) (items : List X) → AreAbove name q (behind name q items)
  behind_above q [] = tt
  behind_above q (item ∷ items) = by (name_cmp (name item) q) refl (behind_above q items)
    where
      by : (o : Ordering) → name_cmp (name item) q ≡ o → AreAbove name q (behind name q items)
          → AreAbove name q (behind name q (item ∷ items))
      by Less e rest = rw e rest
      by Equal e rest = rw e rest
      by Greater e rest = rw e (greater_back (name item) q e, rest)

  parts : (items : List X) (change : Change X)
      → with_change name items change
      ≡ before name change.0 items ++ (option_to_list change.1 ++ behind name change.0 items)
  parts items change = append_assoc (before name change.0 items) (option_to_list change.1) (behind name change.0 items)

  with_in_order : (items : List X) (change : Change X) → InOrder name items → HasName change
      → InOrder name (with_change name items change)
  with_in_order items change s has =
      rw (parts items change) (joined_in_order name (before name change.0 items) (tail change.1)
      (filtered (λ q. is_lt (name_cmp q change.0)) items s) (tail_in_order change.1 has)
      (all_below (before name change.0 items) (before_less change.0 items)))
    where
      back : List X
      back = behind name change.0 items

      tail : Option X → List X
      tail item = option_to_list item ++ back

      tail_in_order : (item : Option X) → IfSome item (λ item. name item ≡ change.0) → InOrder name (tail item)
      tail_in_order None has = filtered (λ q. is_gt (name_cmp q change.0)) items s
      tail_in_order (Some item) has =
          more_in_order name item back (rw has (behind_above change.0 items))
          (filtered (λ q. is_gt (name_cmp q change.0)) items s)

      tail_above : (low : Name) (item : Option X) → IfSome item (λ item. name item ≡ change.0)
          → name_cmp low change.0 ≡ Less → AreAbove name low (tail item)
      tail_above low None has less = above_lesser name low change.0 back less (behind_above change.0 items)
      tail_above low (Some item) has less =
          (rw has less, above_lesser name low change.0 back less (behind_above change.0 items))

      all_below : (front : List X) → AreBefore name change.0 front
          → AllByRecursion (λ item. AreAbove name (name item) (tail change.1)) front
      all_below [] less = tt
      all_below (item ∷ front) less = (tail_above (name item) change.1 has less.0, all_below front less.1)

  pub changed_in_order : (items : List X) (changes : List (Change X)) → InOrder name items → HaveNames changes
      → InOrder name (changed name items changes)
  changed_in_order items [] s have = s
  changed_in_order items (change ∷ changes) s have =
      changed_in_order (with_change name items change) changes (with_in_order items change s have.0) have.1

  -- ---- what a name has

  pub item_of-append : (q : Name) (front back : List X)
      → item_of name (front ++ back) q ≡ option_or (item_of name front q) (item_of name back q)
  item_of-append q [] back = refl
  item_of-append q (item ∷ front) back = by (is_at (name_cmp q) (name item)) (item_of-append q front back)
    where
      by : (b : Bool) → item_of name (front ++ back) q ≡ option_or (item_of name front q) (item_of name back q)
          → cond b (Some item) (item_of name (front ++ back) q)
          ≡ option_or (cond b (Some item) (item_of name front q)) (item_of name back q)
      by true rest = refl
      by false rest = rest

  item_of-filter : (p : Name → Bool) (q : Name) (items : List X)
      → item_of name (filter (λ item. p (name item)) items) q ≡ cond (p q) (item_of name items q) None
  item_of-filter p q items =
      ap (lookup (is_at (name_cmp q))) (named-filter items)
      ∙ lookup-filter-keys (is_at (name_cmp q)) p (p q)
      (λ k same. ap p (sym (exact_bytes q k (is_equal (name_cmp q k) same))))
      (named name items)
    where
      is_equal : (o : Ordering) → is_eq o ≡ true → o ≡ Equal
      is_equal Less h = cc
      is_equal Equal h = refl
      is_equal Greater h = cc

      named-filter : (items : List X)
          → named name (filter (λ item. p (name item)) items) ≡ filter (λ entry. p entry.0) (named name items)
      named-filter [] = refl
      named-filter (item ∷ items) = by (p (name item)) refl (named-filter items)
        where
          by : (b : Bool) → p (name item) ≡ b
              → named name (filter (λ item. p (name item)) items) ≡ filter (λ entry. p entry.0) (named name items)
              → named name (filter (λ item. p (name item)) (item ∷ items))
              ≡ filter (λ entry. p entry.0) (named name (item ∷ items))
          by true e rest = rw e (ap (λ entries. (name item, item) ∷ entries) rest)
          by false e rest = rw e rest

  item_of-change : (q : Name) (change : Change X) → HasName change
      → item_of name (option_to_list change.1) q ≡ cond (is_at (name_cmp q) change.0) change.1 None
  item_of-change q change has = by change.1 has
    where
      nothing : Option X
      nothing = None

      neither : (b : Bool) → nothing ≡ cond b nothing nothing
      neither true = refl
      neither false = refl

      by : (own : Option X) → IfSome own (λ item. name item ≡ change.0)
          → item_of name (option_to_list own) q ≡ cond (is_at (name_cmp q) change.0) own None
      by None has = neither (is_at (name_cmp q) change.0)
      by (Some item) has = rw has refl

  item_of-with : (q : Name) (items : List X) (change : Change X) → HasName change
      → item_of name (with_change name items change) q
      ≡ cond (is_at (name_cmp q) change.0) change.1 (item_of name items q)
  item_of-with q items change has =
      item_of-append q (before name change.0 items ++ option_to_list change.1) (behind name change.0 items)
      ∙ (ap (λ front. option_or front (item_of name (behind name change.0 items) q))
      (item_of-append q (before name change.0 items) (option_to_list change.1))
      ∙ (rw (
        item_of-filter (λ k. is_lt (name_cmp k change.0)) q items,
        item_of-filter (λ k. is_gt (name_cmp k change.0)) q items,
        item_of-change q change has,
      ) (by (name_cmp q change.0) (item_of name items q) change.1)))
    where
      by : (o : Ordering) (found own : Option X)
          → option_or (option_or (cond (is_lt o) found None) (cond (is_eq o) own None)) (cond (is_gt o) found None)
          ≡ cond (is_eq o) own found
      by Less None own = refl
      by Less (Some item) own = refl
      by Equal found None = refl
      by Equal found (Some item) = refl
      by Greater found own = refl

  none_past : {Y : Type 0} (q : Name) (entries : List (Name × Y))
      → AllByRecursion (λ k. name_cmp q k ≡ Less) (keys_of entries) → lookup (is_at (name_cmp q)) entries ≡ None
  none_past q [] h = refl
  none_past q (entry ∷ entries) h = rw h.0 (none_past q entries h.1)

  pub item_of-changed : (q : Name) (items : List X) (changes : List (Change X)) → HaveNames changes
      → IsStrictlySortedBy name_cmp (keys_of changes)
      → item_of name (changed name items changes) q
      ≡ unwrap_or (lookup (is_at (name_cmp q)) changes) (item_of name items q)
  unfolding IsStrictlySortedBy
  item_of-changed q items [] have rise = refl
  item_of-changed q items (change ∷ changes) have rise =
      item_of-changed q (with_change name items change) changes have.1 rise.1
      ∙ (ap (unwrap_or (lookup (is_at (name_cmp q)) changes)) (item_of-with q items change have.0)
      ∙ by (name_cmp q change.0) refl)
    where
      by : (o : Ordering) → name_cmp q change.0 ≡ o
          → unwrap_or (lookup (is_at (name_cmp q)) changes)
          (cond (is_at (name_cmp q) change.0) change.1 (item_of name items q))
          ≡ unwrap_or (lookup (is_at (name_cmp q)) (change ∷ changes)) (item_of name items q)
      by Less e = rw e refl
      by Equal e =
          let same : q ≡ change.0 = exact_bytes q change.0 e in
          let none : lookup (is_at (name_cmp q)) changes ≡ None = none_past q changes (rw same rise.0) in
          rw (e, none) refl
      by Greater e = rw e refl

  -- what holds of all items and all changes holds of all items after the changes
  pub all_changed : (P : X → Type 0) (items : List X) (changes : List (Change X)) → AllByRecursion P items
      → AllByRecursion (λ change. IfSome change.1 P) changes → AllByRecursion P (changed name items changes)
  all_changed P items [] all each = all
  all_changed P items (change ∷ changes) all each =
      all_changed P (with_change name items change) changes
      (append (before name change.0 items ++ option_to_list change.1) (behind name change.0 items)
      (append (before name change.0 items) (option_to_list change.1)
      (filter_keeps (λ item. is_lt (name_cmp (name item) change.0)) items all)
      (own change.1 each.0))
      (filter_keeps (λ item. is_gt (name_cmp (name item) change.0)) items all)) each.1
    where
      append : (front back : List X) → AllByRecursion P front → AllByRecursion P back → AllByRecursion P (front ++ back)
      append [] back f b = b
      append (item ∷ front) back f b = (f.0, append front back f.1 b)

      own : (item : Option X) → IfSome item P → AllByRecursion P (option_to_list item)
      own None h = tt
      own (Some item) h = (h, tt)

      filter_keeps : (p : X → Bool) (items : List X) → AllByRecursion P items → AllByRecursion P (filter p items)
      filter_keeps p [] h = tt
      filter_keeps p (item ∷ items) h = by (p item) refl (filter_keeps p items h.1)
        where
          by : (b : Bool) → p item ≡ b → AllByRecursion P (filter p items) → AllByRecursion P (filter p (item ∷ items))
          by true e rest = rw e (h.0, rest)
          by false e rest = rw e rest

  -- ---- a walk over items and changes

  -- items before all changes
  abbrev pub ArePast : List X → List (Change X) → Type 0
  ArePast items changes =
      AllByRecursion (λ item. AllByRecursion (λ change. name_cmp (name item) change.0 ≡ Less) changes) items

  -- what is made by a change, where some items were made and others are left
  abbrev pub made_with : List X → List X → Change X → List X
  made_with made rest change = made ++ before name change.0 rest ++ option_to_list change.1

  are_before : (change : Change X) (changes : List (Change X)) (items : List X) → ArePast items (change ∷ changes)
      → AreBefore name change.0 items
  are_before change changes [] past = tt
  are_before change changes (item ∷ items) past = (past.0.0, are_before change changes items past.1)

  -- the change makes that of all items
  pub step : (made rest : List X) (change : Change X) (changes : List (Change X)) → ArePast made (change ∷ changes)
      → with_change name (made ++ rest) change ≡ made_with made rest change ++ behind name change.0 rest
  step made rest change changes past =
      let less : AreBefore name change.0 made = are_before change changes made past in
      ap₂ (λ front back. front ++ option_to_list change.1 ++ back)
      (passed-before name change.0 made rest less) (passed-behind name change.0 made rest less)

  -- in order again
  pub step_in_order : (made rest : List X) (change : Change X) (changes : List (Change X)) → InOrder name (made ++ rest)
      → HasName change → ArePast made (change ∷ changes)
      → InOrder name (made_with made rest change ++ behind name change.0 rest)
  step_in_order made rest change changes s has past =
      rw (← step made rest change changes past) (with_in_order (made ++ rest) change s has)

  -- and before the changes that are left
  pub step_past : (made rest : List X) (change : Change X) (changes : List (Change X))
      → IsStrictlySortedBy name_cmp (keys_of (change ∷ changes)) → HasName change → ArePast made (change ∷ changes)
      → ArePast (made_with made rest change) changes
  unfolding IsStrictlySortedBy
  step_past made rest change changes rise has past =
      append (made ++ before name change.0 rest) (option_to_list change.1)
      (append made (before name change.0 rest) (later made past)
      (lesser (before name change.0 rest) (before_less change.0 rest))) (own change.1 has)
    where
      append : (front back : List X) → ArePast front changes → ArePast back changes → ArePast (front ++ back) changes
      append [] back f b = b
      append (item ∷ front) back f b = (f.0, append front back f.1 b)

      later : (items : List X) → ArePast items (change ∷ changes) → ArePast items changes
      later [] past = tt
      later (item ∷ items) past = (past.0.1, later items past.1)

      below : (low : Name) → name_cmp low change.0 ≡ Less → (rest : List (Change X))
          → AllByRecursion (λ key. name_cmp change.0 key ≡ Less) (keys_of rest)
          → AllByRecursion (λ next. name_cmp low next.0 ≡ Less) rest
      below low less [] h = tt
      below low less (next ∷ rest) h = (less_both low change.0 next.0 less h.0, below low less rest h.1)

      same : (rest : List (Change X)) → AllByRecursion (λ key. name_cmp change.0 key ≡ Less) (keys_of rest)
          → AllByRecursion (λ next. name_cmp change.0 next.0 ≡ Less) rest
      same [] h = tt
      same (next ∷ rest) h = (h.0, same rest h.1)

      lesser : (items : List X) → AreBefore name change.0 items → ArePast items changes
      lesser [] less = tt
      lesser (item ∷ items) less = (below (name item) less.0 changes rise.0, lesser items less.1)

      own : (item : Option X) → IfSome item (λ item. name item ≡ change.0) → ArePast (option_to_list item) changes
      own None has = tt
      own (Some item) has = (rw has (same changes rise.0), tt)

  -- all that a walk keeps
  pub walked : (made rest made' rest' whole : List X) (change : Change X) (changes : List (Change X))
      → made' ≡ made_with made rest change → rest' ≡ behind name change.0 rest → HasName change
      → changed name (made ++ rest) (change ∷ changes) ≡ whole → InOrder name (made ++ rest)
      → IsStrictlySortedBy name_cmp (keys_of (change ∷ changes)) → ArePast made (change ∷ changes)
      → (changed name (made' ++ rest') changes ≡ whole) × InOrder name (made' ++ rest')
      × IsStrictlySortedBy name_cmp (keys_of changes) × ArePast made' changes
  walked made rest made' rest' whole change changes is_made is_left has is s rise past =
      rw (is_made, is_left) (
        ap (λ items. changed name items changes) (sym (step made rest change changes past)) ∙ is,
        step_in_order made rest change changes s has past,
        sorted_tail name_cmp change.0 (keys_of changes) rise,
        step_past made rest change changes rise has past,
      )
