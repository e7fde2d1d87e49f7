-- The costs from a source that sorted rows give rise by destination, and tell what the rows tell.
use Rattle.std.proofs.Common.{◌≡◌, ℕ, refl, ap, subst, sym, ◌∙◌}
use Rattle.std.proofs.lemmas.Cmp.{eq_by_cmp_equiv, nat_list_cmp_total}
use Rattle.std.proofs.lemmas.Map.Entries.{lookup_from_place}
use Rattle.std.proofs.lemmas.Map.Keys.{IsDistinct-from_sorted}
use Rattle.std.specs.Prelude.{Bool, true, false, ◌&&◌, [], ◌∷◌, Some, None, slice_get}
use Rattle.std.specs.BTreeMap.{is_at}
use Rattle.std.specs.List.{AllByRecursion}
use Rattle.std.specs.List.Sorted.{IsStrictlySortedBy}
use Rattle.std.specs.Map.{keys_of, lookup}
use Rattle.std.specs.declared.cmp.Ordering.TheVariants.{Less, Equal}
use Rattle.alto_rows.specs.declared.key.Key.{Key}
use Rattle.alto_rows.specs.declared.key.Key.TheVariants as key
use Rattle.alto_rows.specs.declared.value.Value.{Value}
use Rattle.alto_rows.specs.declared.value.Value.TheVariants as value
use Rattle.alto_rows.specs.Costs.{cost_of, number_at}
use Rattle.alto_rows.specs.Order.{key_cmp, name_cmp, same_name}
use Rattle.alto_rows.specs.Rows.{AreSorted, Rows, value_of}
use Rattle.alto_rows.proofs.OrderLemmas.{equal_tests}
use Rattle.alto_rows.proofs.RowsLemmas.{ArePast, past_first, sorted_rest, value_of-past}
use Rattle.alto_rows.proofs.TouchesLemmas.{both_ties, one_name, same_name_itself, same_name_ties}
use Rattle.cost_tables.specs.Tables.{Costs, Name, cost_to, costs_from}

-- ---- the row of a pair

-- the key of the cost of a pair
abbrev pub is_cost_key : Name → Name → Name → Name → Key → Bool
is_cost_key net metric src dst (key.Cost of kind from to) =
    same_name net of && (same_name metric kind && (same_name src from && same_name dst to))
is_cost_key net metric src dst _ = false

-- it is the one that is looked for
pub cost_key : (net metric src dst : Name) (at : Key)
    → is_at (key_cmp (key.Cost net metric src dst)) at ≡ is_cost_key net metric src dst at
unfolding key_cmp
cost_key net metric src dst (key.Cost of kind from to) =
    both_ties (name_cmp net of) _
    ∙ rw (
      both_ties (name_cmp metric kind) _,
      both_ties (name_cmp src from) (name_cmp dst to),
      same_name_ties net of,
      same_name_ties metric kind,
      same_name_ties src from,
      same_name_ties dst to,
    ) refl
cost_key net metric src dst _ = refl

-- so its value is what is found under it
found_value : (net metric src dst : Name) (rows : Rows)
    → value_of rows (key.Cost net metric src dst) ≡ lookup (is_cost_key net metric src dst) rows
found_value net metric src dst rows = ap (λ test. lookup test rows) (λ i at. cost_key net metric src dst at i)

-- the key of a pair whose names test as these
same_key : (net metric src dst of kind from to : Name) → same_name net of ≡ true → same_name metric kind ≡ true
    → same_name src from ≡ true → same_name dst to ≡ true → key.Cost of kind from to ≡ key.Cost net metric src dst
same_key net metric src dst of kind from to e f h k =
    sym
    (λ i. key.Cost (one_name net of e i) (one_name metric kind f i) (one_name src from h i) (one_name dst to k i))

-- ---- what the costs tell

-- behind the row of a pair no cost tells of it
none_behind : (net metric src dst : Name) (at : Key) (rows : Rows) → at ≡ key.Cost net metric src dst → ArePast at rows
    → cost_to (costs_from rows net metric src) dst ≡ number_at (lookup (is_cost_key net metric src dst) rows)
    → cost_to (costs_from rows net metric src) dst ≡ None
none_behind net metric src dst at rows is past told =
    told
    ∙ ap number_at (sym (found_value net metric src dst rows)
    ∙ value_of-past (key.Cost net metric src dst) rows (subst (λ (own : Key). ArePast own rows) is past))

-- the costs from a source tell those of its pairs
pub cost_to-costs_from : (rows : Rows) (net metric src dst : Name) → AreSorted rows
    → cost_to (costs_from rows net metric src) dst ≡ cost_of rows net metric src dst
cost_to-costs_from rows net metric src dst sorted =
    among rows sorted ∙ ap number_at (sym (found_value net metric src dst rows))
  where
    among : (rows : Rows) → AreSorted rows
        → cost_to (costs_from rows net metric src) dst ≡ number_at (lookup (is_cost_key net metric src dst) rows)
    among [] sorted = refl
    among ((key.Cost of kind from to, v) ∷ rows) sorted =
        by (same_name net of) (same_name metric kind) (same_name src from) (same_name dst to) refl refl refl refl v
        (past_first (key.Cost of kind from to, v) rows sorted)
        (among rows (sorted_rest (key.Cost of kind from to, v) rows sorted))
      where
        none : same_name net of ≡ true → same_name metric kind ≡ true → same_name src from ≡ true
            → same_name dst to ≡ true → ArePast (key.Cost of kind from to) rows
            → cost_to (costs_from rows net metric src) dst ≡ number_at (lookup (is_cost_key net metric src dst) rows)
            → cost_to (costs_from rows net metric src) dst ≡ None
        none e f h k past below =
            none_behind net metric src dst (key.Cost of kind from to) rows
            (same_key net metric src dst of kind from to e f h k) past below

        by : (a b c d : Bool) → same_name net of ≡ a → same_name metric kind ≡ b → same_name src from ≡ c
            → same_name dst to ≡ d → (v : Value) → ArePast (key.Cost of kind from to) rows
            → cost_to (costs_from rows net metric src) dst ≡ number_at (lookup (is_cost_key net metric src dst) rows)
            → cost_to (costs_from ((key.Cost of kind from to, v) ∷ rows) net metric src) dst
            ≡ number_at (lookup (is_cost_key net metric src dst) ((key.Cost of kind from to, v) ∷ rows))
        by true true true true e f h k (value.Num n) past below = rw (e, f, h, ← same_name_ties dst to, k) refl
        by true true true true e f h k value.Unit past below = rw (e, f, h, k) (none e f h k past below)
        by true true true true e f h k (value.Text text) past below = rw (e, f, h, k) (none e f h k past below)
        by true true true true e f h k (value.Names names) past below = rw (e, f, h, k) (none e f h k past below)
        by true true true false e f h k (value.Num n) past below = rw (e, f, h, ← same_name_ties dst to, k) below
        by true true true false e f h k value.Unit past below = rw (e, f, h, k) below
        by true true true false e f h k (value.Text text) past below = rw (e, f, h, k) below
        by true true true false e f h k (value.Names names) past below = rw (e, f, h, k) below
        by true true false d e f h k v past below = rw (e, f, h) below
        by true false c d e f h k v past below = rw (e, f) below
        by false b c d e f h k v past below = rw e below
    among (row ∷ rows) sorted = among rows (sorted_rest row rows sorted)

-- ---- that they rise

-- ties of names
ties : (a b : Name) → same_name a b ≡ true → name_cmp a b ≡ Equal
ties a b same = equal_tests (name_cmp a b) (sym (same_name_ties a b) ∙ same)

-- the costs behind the row of a pair are to later destinations
later : (net metric src dst : Name) (rows : Rows) → ArePast (key.Cost net metric src dst) rows
    → AllByRecursion (λ to. name_cmp dst to ≡ Less) (keys_of (costs_from rows net metric src))
unfolding key_cmp
later net metric src dst [] past = tt
later net metric src dst ((key.Cost of kind from to, v) ∷ rows) past =
    by (same_name net of) (same_name metric kind) (same_name src from) refl refl refl v past.0
    (later net metric src dst rows past.1)
  where
    by : (a b c : Bool) → same_name net of ≡ a → same_name metric kind ≡ b → same_name src from ≡ c → (v : Value)
        → key_cmp (key.Cost net metric src dst) (key.Cost of kind from to) ≡ Less
        → AllByRecursion (λ to. name_cmp dst to ≡ Less) (keys_of (costs_from rows net metric src))
        → AllByRecursion (λ to. name_cmp dst to ≡ Less)
        (keys_of (costs_from ((key.Cost of kind from to, v) ∷ rows) net metric src))
    by true true true e f h (value.Num n) less below =
        rw (e, f, h) (rw (ties net of e, ties metric kind f, ties src from h) at less, below)
    by true true true e f h value.Unit less below = rw (e, f, h) below
    by true true true e f h (value.Text text) less below = rw (e, f, h) below
    by true true true e f h (value.Names names) less below = rw (e, f, h) below
    by true true false e f h v less below = rw (e, f, h) below
    by true false c e f h v less below = rw (e, f) below
    by false b c e f h v less below = rw e below
later net metric src dst (row ∷ rows) past = later net metric src dst rows past.1

-- the costs from a source rise by destination
pub rise-costs_from : (rows : Rows) (net metric src : Name) → AreSorted rows
    → IsStrictlySortedBy name_cmp (keys_of (costs_from rows net metric src))
unfolding IsStrictlySortedBy
rise-costs_from [] net metric src sorted = tt
rise-costs_from ((key.Cost of kind from to, v) ∷ rows) net metric src sorted =
    by (same_name net of) (same_name metric kind) (same_name src from) refl refl refl v
    (past_first (key.Cost of kind from to, v) rows sorted)
    (rise-costs_from rows net metric src (sorted_rest (key.Cost of kind from to, v) rows sorted))
  where
    by : (a b c : Bool) → same_name net of ≡ a → same_name metric kind ≡ b → same_name src from ≡ c → (v : Value)
        → ArePast (key.Cost of kind from to) rows
        → IsStrictlySortedBy name_cmp (keys_of (costs_from rows net metric src))
        → IsStrictlySortedBy name_cmp (keys_of (costs_from ((key.Cost of kind from to, v) ∷ rows) net metric src))
    by true true true e f h (value.Num n) past below =
        let behind : ArePast (key.Cost net metric src to) rows =
        subst (λ (own : Key). ArePast own rows) (same_key net metric src to of kind from to e f h (same_name_itself to))
        past in
        rw (e, f, h) (later net metric src to rows behind, below)
    by true true true e f h value.Unit past below = rw (e, f, h) below
    by true true true e f h (value.Text text) past below = rw (e, f, h) below
    by true true true e f h (value.Names names) past below = rw (e, f, h) below
    by true true false e f h v past below = rw (e, f, h) below
    by true false c e f h v past below = rw (e, f) below
    by false b c e f h v past below = rw e below
rise-costs_from (row ∷ rows) net metric src sorted = rise-costs_from rows net metric src (sorted_rest row rows sorted)

-- ---- the cost at a place

-- a cost that stands under a name is what is told of it
pub cost_to-place : (costs : Costs) (place : ℕ) (cost : Name × ℕ) (dst : Name)
    → IsStrictlySortedBy name_cmp (keys_of costs)
    → slice_get costs place ≡ Some cost → same_name cost.0 dst ≡ true → cost_to costs dst ≡ Some cost.1
cost_to-place costs place cost dst rise there same =
    let one : cost.0 ≡ dst = one_name cost.0 dst same in
    let here : cost_to costs cost.0 ≡ Some cost.1 =
    lookup_from_place (eq_by_cmp_equiv nat_list_cmp_total) costs place cost.0 cost.1
    (IsDistinct-from_sorted name_cmp (keys_of costs) rise) there in
    rw (← one) here
