-- Items in the order of their names, and those before a name and behind it.
use Rattle.std.proofs.Common.{◌≡◌, arith, eqb-true, refl, ap, sym, ◌∙◌}
use Rattle.std.proofs.lemmas.Cmp.{nat_list_cmp_total}
use Rattle.std.proofs.lemmas.List.{append-nil}
use Rattle.std.proofs.lemmas.List.Elements.{filter-append}
use Rattle.std.proofs.lemmas.Map.Lookups.{exact_bytes}
use Rattle.std.proofs.lemmas.Map.Text.{is_eq-slice_cmp}
use Rattle.std.specs.Option.{option_map_or}
use Rattle.std.specs.Prelude.{ℕ, suc, ◌-◌, Bool, true, false, List, [], ◌∷◌, ◌++◌, Option, length, map, slice_get}
use Rattle.std.specs.Bool.{◌==◌}
use Rattle.std.specs.Str.{bytes_eq}
use Rattle.std.specs.List.{AllByRecursion}
use Rattle.std.specs.List.Sorted.{IsStrictlySortedBy}
use Rattle.std.specs.Ordering.{is_eq, is_lt, is_gt, ordering_reverse}
use Rattle.std.specs.declared.cmp.Ordering.{Ordering}
use Rattle.std.specs.declared.cmp.Ordering.TheVariants.{Less, Equal, Greater}
use Rattle.shared_list.specs.Order.{Name, name_cmp, InOrder, before, behind, ends_before}

-- ---- two names

pub less_back : (a b : Name) → name_cmp a b ≡ Less → name_cmp b a ≡ Greater
less_back a b h = nat_list_cmp_total.antisymm b a ∙ ap ordering_reverse h

pub greater_back : (a b : Name) → name_cmp a b ≡ Greater → name_cmp b a ≡ Less
greater_back a b h = nat_list_cmp_total.antisymm b a ∙ ap ordering_reverse h

pub less_both : (a b c : Name) → name_cmp a b ≡ Less → name_cmp b c ≡ Less → name_cmp a c ≡ Less
less_both a b c = nat_list_cmp_total.trans a b c

-- a name that is above one that isn't before a third is behind that
pub above_not_before : (low high q : Name) → name_cmp low high ≡ Less → is_lt (name_cmp low q) ≡ false
    → name_cmp high q ≡ Greater
above_not_before low high q less not_before = by (name_cmp low q) refl not_before
  where
    by : (o : Ordering) → name_cmp low q ≡ o → is_lt o ≡ false → name_cmp high q ≡ Greater
    by Less e not_so = cc
    by Equal e not_so = let same : low ≡ q = exact_bytes low q e in rw same at (less_back low high less)
    by Greater e not_so = less_back q high (less_both q low high (greater_back low q e) less)

is_less : (o : Ordering) → is_lt o ≡ true → o ≡ Less
is_less Less h = refl
is_less Equal h = cc
is_less Greater h = cc

is_equal : (o : Ordering) → is_eq o ≡ true → o ≡ Equal
is_equal Less h = cc
is_equal Equal h = refl
is_equal Greater h = cc

-- names that test as one are
pub one_name : (a b : Name) → bytes_eq a b ≡ true → a ≡ b
one_name a b h = exact_bytes a b (is_equal (name_cmp a b) (is_eq-slice_cmp a b ∙ h))

module _ {X : Type 0} (name : X → Name) where
  -- each item is above a name, before it, or behind it
  abbrev pub AreAbove : Name → List X → Type 0
  AreAbove low items = AllByRecursion (λ item. name_cmp low (name item) ≡ Less) items

  abbrev pub AreBefore : Name → List X → Type 0
  AreBefore q items = AllByRecursion (λ item. name_cmp (name item) q ≡ Less) items

  abbrev pub AreBehind : Name → List X → Type 0
  AreBehind q items = AllByRecursion (λ item. name_cmp (name item) q ≡ Greater) items

  -- ---- items in order

  pub none_in_order : InOrder name []
  unfolding IsStrictlySortedBy
  none_in_order = tt

  pub above_first : (item : X) (items : List X) → InOrder name (item ∷ items) → AreAbove (name item) items
  unfolding IsStrictlySortedBy
  above_first item items s = by items s.0
    where
      by : (rest : List X) → AllByRecursion (λ other. name_cmp (name item) other ≡ Less) (map name rest)
          → AreAbove (name item) rest
      by [] h = tt
      by (next ∷ rest) h = (h.0, by rest h.1)

  pub rest_in_order : (item : X) (items : List X) → InOrder name (item ∷ items) → InOrder name items
  unfolding IsStrictlySortedBy
  rest_in_order item items s = s.1

  pub more_in_order : (item : X) (items : List X) → AreAbove (name item) items → InOrder name items
      → InOrder name (item ∷ items)
  unfolding IsStrictlySortedBy
  more_in_order item items above s = (by items above, s)
    where
      by : (rest : List X) → AreAbove (name item) rest
          → AllByRecursion (λ other. name_cmp (name item) other ≡ Less) (map name rest)
      by [] h = tt
      by (next ∷ rest) h = (h.0, by rest h.1)

  pub front_in_order : (front back : List X) → InOrder name (front ++ back) → InOrder name front
  front_in_order [] back s = none_in_order
  front_in_order (item ∷ front) back s =
      more_in_order item front (by front (above_first item (front ++ back) s))
      (front_in_order front back (rest_in_order item (front ++ back) s))
    where
      by : (rest : List X) → AreAbove (name item) (rest ++ back) → AreAbove (name item) rest
      by [] h = tt
      by (next ∷ rest) h = (h.0, by rest h.1)

  pub back_in_order : (front back : List X) → InOrder name (front ++ back) → InOrder name back
  back_in_order [] back s = s
  back_in_order (item ∷ front) back s = back_in_order front back (rest_in_order item (front ++ back) s)

  back_above : (low : Name) (front back : List X) → AreAbove low (front ++ back) → AreAbove low back
  back_above low [] back h = h
  back_above low (item ∷ front) back h = back_above low front back h.1

  pub above_append : (low : Name) (front back : List X) → AreAbove low front → AreAbove low back
      → AreAbove low (front ++ back)
  above_append low [] back f b = b
  above_append low (item ∷ front) back f b = (f.0, above_append low front back f.1 b)

  pub above_lesser : (low high : Name) (items : List X) → name_cmp low high ≡ Less → AreAbove high items
      → AreAbove low items
  above_lesser low high [] less h = tt
  above_lesser low high (item ∷ items) less h =
      (less_both low high (name item) less h.0, above_lesser low high items less h.1)

  -- items before a name, and others that are behind all lesser ones
  pub joined_in_order : (front back : List X) → InOrder name front → InOrder name back
      → AllByRecursion (λ item. AreAbove (name item) back) front → InOrder name (front ++ back)
  joined_in_order [] back f b above = b
  joined_in_order (item ∷ front) back f b above =
      more_in_order item (front ++ back) (above_append (name item) front back (above_first item front f) above.0)
      (joined_in_order front back (rest_in_order item front f) b above.1)

  -- ---- the items before a name, and those behind it

  all_before : (q : Name) (items : List X) → AreBefore q items → before name q items ≡ items
  all_before q [] h = refl
  all_before q (item ∷ items) h = rw h.0 (ap (λ rest. item ∷ rest) (all_before q items h.1))

  none_behind : (q : Name) (items : List X) → AreBefore q items → behind name q items ≡ []
  none_behind q [] h = refl
  none_behind q (item ∷ items) h = rw h.0 (none_behind q items h.1)

  none_before : (q : Name) (items : List X) → AreBehind q items → before name q items ≡ []
  none_before q [] h = refl
  none_before q (item ∷ items) h = rw h.0 (none_before q items h.1)

  all_behind : (q : Name) (items : List X) → AreBehind q items → behind name q items ≡ items
  all_behind q [] h = refl
  all_behind q (item ∷ items) h = rw h.0 (ap (λ rest. item ∷ rest) (all_behind q items h.1))

  above_behind : (low q : Name) (items : List X) → is_lt (name_cmp low q) ≡ false → AreAbove low items
      → AreBehind q items
  above_behind low q [] not_so h = tt
  above_behind low q (item ∷ items) not_so h =
      (above_not_before low (name item) q h.0 not_so, above_behind low q items not_so h.1)

  -- behind an item that isn't before a name all are behind the name
  pub behind_first : (q : Name) (item : X) (items : List X) → InOrder name (item ∷ items)
      → is_lt (name_cmp (name item) q) ≡ false → AreBehind q items
  behind_first q item items s not_so = above_behind (name item) q items not_so (above_first item items s)

  -- an item of the name, or behind it, in order before others
  pub from_equal : (q : Name) (item : X) (items : List X) → InOrder name (item ∷ items)
      → name_cmp (name item) q ≡ Equal
      → (before name q (item ∷ items) ≡ []) × (behind name q (item ∷ items) ≡ items)
  from_equal q item items s is =
      let past : AreBehind q items = behind_first q item items s (rw is refl) in
      (rw is (none_before q items past), rw is (all_behind q items past))

  pub from_greater : (q : Name) (item : X) (items : List X) → InOrder name (item ∷ items)
      → name_cmp (name item) q ≡ Greater
      → (before name q (item ∷ items) ≡ []) × (behind name q (item ∷ items) ≡ item ∷ items)
  from_greater q item items s is =
      let past : AreBehind q items = behind_first q item items s (rw is refl) in
      (rw is (none_before q items past), rw is (ap (λ rest. item ∷ rest) (all_behind q items past)))

  -- ---- runs of items

  -- a run ends as what follows its first item does
  ends_more : (q : Name) (item next : X) (run : List X)
      → ends_before name q (item ∷ next ∷ run) ≡ ends_before name q (next ∷ run)
  ends_more q item next run =
      ap (λ place. tested (slice_get (item ∷ next ∷ run) place)) (one_less (suc (length run)))
      ∙ sym (ap (λ place. tested (slice_get (next ∷ run) place)) (one_less (length run)))
    where
      tested : Option X → Bool
      tested last = option_map_or (λ other. is_lt (name_cmp (name other) q)) last true

      one_less : (n : ℕ) → suc n - 1 ≡ n
      one_less n = omega arith

  -- a run that ends before a name is before it
  pub run_before : (q : Name) (run : List X) → InOrder name run → ends_before name q run ≡ true → AreBefore q run
  run_before q [] s so = tt
  run_before q (item ∷ []) s so = (is_less (name_cmp (name item) q) so, tt)
  run_before q (item ∷ next ∷ run) s so =
      let rest : AreBefore q (next ∷ run) =
      run_before q (next ∷ run) (rest_in_order item (next ∷ run) s) (sym (ends_more q item next run) ∙ so) in
      (less_both (name item) (name next) q (above_first item (next ∷ run) s).0 rest.0, rest)

  -- and all that follows one that doesn't is behind it
  pub more_behind : (q : Name) (run more : List X) → InOrder name (run ++ more) → ends_before name q run ≡ false
      → AreBehind q more
  more_behind q [] more s not_so = cc
  more_behind q (item ∷ []) more s not_so = behind_first q item more s not_so
  more_behind q (item ∷ next ∷ run) more s not_so =
      more_behind q (next ∷ run) more (rest_in_order item (next ∷ run ++ more) s)
      (sym (ends_more q item next run) ∙ not_so)

  -- what follows a run of which an item is behind a name is too
  behind_one : (q : Name) (run more left : List X) (item : X) → InOrder name (run ++ more)
      → behind name q run ≡ item ∷ left → AreBehind q more
  behind_one q [] more left item s e = cc
  behind_one q (first ∷ run) more left item s e =
      by (name_cmp (name first) q) refl e
      (λ e. behind_one q run more left item (rest_in_order first (run ++ more) s) e)
    where
      of_back : (front : List X) → AreBehind q (front ++ more) → AreBehind q more
      of_back [] h = h
      of_back (next ∷ front) h = of_back front h.1

      by : (o : Ordering) → name_cmp (name first) q ≡ o → behind name q (first ∷ run) ≡ item ∷ left
          → (behind name q run ≡ item ∷ left → AreBehind q more) → AreBehind q more
      by Less is e later = later (rw is at e)
      by Equal is e later = later (rw is at e)
      by Greater is e later =
          let not_so : is_lt (name_cmp (name first) q) ≡ false = rw is refl in
          of_back run (behind_first q first (run ++ more) s not_so)

  pub left_behind : {Y : Type 0} (f : Y → X) (q : Name) (run more : List X) (left : List Y) → InOrder name (run ++ more)
      → map f left ≡ behind name q run → (length left == 0) ≡ false → AreBehind q more
  left_behind f q run more [] s e some = cc
  left_behind f q run more (y ∷ left) s e some = behind_one q run more (map f left) (f y) s (sym e)

  -- where no item of a run is behind a name, what follows it has all that are
  pub behind_more : {Y : Type 0} (f : Y → X) (q : Name) (run more : List X) (left : List Y)
      → map f left ≡ behind name q run → (length left == 0) ≡ true → behind name q (run ++ more) ≡ behind name q more
  behind_more f q run more [] e none =
      filter-append (λ item. is_gt (name_cmp (name item) q)) run more
      ∙ ap (λ items. items ++ behind name q more) (sym e)
  behind_more f q run more (y ∷ left) e none =
      let no_length : suc (length left) ≡ 0 = eqb-true (suc (length left)) 0 none in absurd (omega arith)

  pub before_more : (q : Name) (run more : List X)
      → before name q (run ++ more) ≡ before name q run ++ before name q more
  before_more q run more = filter-append (λ item. is_lt (name_cmp (name item) q)) run more

  -- ---- items and others behind them

  -- behind items that are before a name
  pub passed-before : (q : Name) (front back : List X) → AreBefore q front
      → before name q (front ++ back) ≡ front ++ before name q back
  passed-before q front back h =
      filter-append (λ item. is_lt (name_cmp (name item) q)) front back
      ∙ ap (λ items. items ++ before name q back) (all_before q front h)

  pub passed-behind : (q : Name) (front back : List X) → AreBefore q front
      → behind name q (front ++ back) ≡ behind name q back
  passed-behind q front back h =
      filter-append (λ item. is_gt (name_cmp (name item) q)) front back
      ∙ ap (λ items. items ++ behind name q back) (none_behind q front h)

  -- before items that are behind a name
  pub ahead-before : (q : Name) (front back : List X) → AreBehind q back
      → before name q (front ++ back) ≡ before name q front
  ahead-before q front back h =
      filter-append (λ item. is_lt (name_cmp (name item) q)) front back
      ∙ (ap (λ items. before name q front ++ items) (none_before q back h) ∙ append-nil (before name q front))

  pub ahead-behind : (q : Name) (front back : List X) → AreBehind q back
      → behind name q (front ++ back) ≡ behind name q front ++ back
  ahead-behind q front back h =
      filter-append (λ item. is_gt (name_cmp (name item) q)) front back
      ∙ ap (λ items. behind name q front ++ items) (all_behind q back h)
