-- Costs and pairs between sources and destinations by their places.
use Rattle.std.proofs.Common.{◌≡◌, ◌∙◌, ◌+◌, ◌<◌, ◌≤◌, ℕ, zero, suc, refl, ap, sym, append_assoc, arith, drop, get_or}
use Rattle.std.proofs.Common.{inl, inr, length}
use Rattle.std.proofs.lemmas.Bool.Decides.{nat_tests}
use Rattle.std.proofs.lemmas.List.{drop_all, get_or-map, get_or_default}
use Rattle.std.proofs.lemmas.List.FromFn.{get_or-map-range_with_len, length-map-range_with_len}
use Rattle.std.proofs.lemmas.Option.{slice_get_cases, slice_get_past, unwrap_or-slice_get}
use Rattle.std.proofs.lemmas.Simd.{map-map}
use Rattle.std.specs.Prelude.{Bool, true, false, ◌&&◌, ◌⊎◌, nat_lt, List, [], ◌∷◌, ◌++◌, Option, Some, None, is_some}
use Rattle.std.specs.Prelude.{map, option_map}
use Rattle.std.specs.Prelude.{slice_get, unwrap_or}
use Rattle.std.specs.List.{list_any, range_with_len}
use Rattle.alto_rows.specs.Rows.{Rows}
use Rattle.alto_maps.specs.Shape.{Name}
use Rattle.cost_rule.specs.declared.constraint.Constraint.{Constraint}
use Rattle.cost_tables.specs.Tables as tables
use Rattle.cost_tables.specs.Tables.{AreCostsOf, Tables}
use Rattle.cost_tables.proofs.TablesLemmas.{told_in}
use Rattle.cost_filters.specs.declared.columns.Column.{Column}
use Rattle.cost_filters.specs.declared.columns.Scale.{Scale}
use Rattle.cost_filters.specs.declared.columns.Scale.TheVariants as scale
use Rattle.cost_filters.specs.declared.pairs_between.Shown.{Shown}
use Rattle.cost_filters.specs.declared.pairs_between.Shown.TheVariants as shown_as
use Rattle.cost_filters.specs.declared.types.CostType.{CostType}
use Rattle.cost_filters.specs.Between.{AreShown, Costs, Found, column_between, columns_at, costs_as, flags_between}
use Rattle.cost_filters.specs.Between.{flags_from}
use Rattle.cost_filters.specs.Between.{flag_at, is_flagged, one_cost, pairs_at, row_shown, rows_shown, tested_between}
use Rattle.cost_filters.specs.Between.{told_between}
use Rattle.cost_filters.specs.Columns.{columns_of, scaled}
use Rattle.cost_filters.specs.Pairs.{PairsData, Table, cost_shown, costs_at, has_cost, if_there, is_shown}
use Rattle.cost_filters.specs.Pairs.{one_is_empty, pair_costs, tested_from, told_from}
use Rattle.cost_filters.proofs.PairsLemmas.{all_numerical, each_place, pair_at, zero_more}

-- ---- one column

-- what is made for the one at a place
pub made_at : {A B : Type 0} (f : A → List B) (xs : List A) (at : ℕ) (d : A) → at < length xs
    → unwrap_or (slice_get (map f xs) at) [] ≡ f (get_or xs at d)
made_at f xs at d within = unwrap_or-slice_get (map f xs) at [] ∙ get_or-map f xs at d [] within

-- the costs from the source at a place, as they are told
from_source : (costs : Tables) (net : Name) (srcs dsts : List Name) (metric : Name) (of : Scale) (at : ℕ) (d : Name)
    → at < length srcs
    → unwrap_or (slice_get (column_between costs net srcs dsts metric of) at) []
    ≡ map (λ dst. option_map (scaled of) (tables.cost_told (tables.costs_of costs net metric) (get_or srcs at d) dst))
    dsts
from_source costs net srcs dsts metric of at d within =
    let table = tables.costs_of costs net metric in
    let told : Name → List (Option ℕ) = λ src. map (tables.cost_told table src) dsts in
    ap (λ (all : Costs). unwrap_or (slice_get all at) []) (map-map (map (option_map (scaled of))) told srcs)
    ∙ (made_at (λ src. map (option_map (scaled of)) (told src)) srcs at d within
    ∙ map-map (option_map (scaled of)) (tables.cost_told table (get_or srcs at d)) dsts)

-- a cost that is told as it is
as_it_is : (cost : Option ℕ) → option_map (scaled scale.Numerical) cost ≡ cost
as_it_is None = refl
as_it_is (Some cost) = refl

-- a column is put before those that are left
pub column_more : {A : Type 0} (f : A → Costs) (before : List Costs) (column : Costs) (one : A) (left : List A)
    (all : List Costs) → column ≡ f one → before ++ map f (one ∷ left) ≡ all
    → (before ++ column ∷ []) ++ map f left ≡ all
column_more f before column one left all is whole =
    append_assoc before (column ∷ []) (map f left) ∙ (ap (λ (first : Costs). before ++ first ∷ map f left) is ∙ whole)

-- ---- all columns of a source

-- those that are asked for
pub told_tell : (rows : Rows) (costs : Tables) (net : Name) (columns : List Column) (srcs dsts : List Name) (at : ℕ)
    (d : Name) → at < length srcs → AreCostsOf rows costs
    → columns_at at (told_between costs net columns srcs dsts) ≡ told_from rows net columns (get_or srcs at d) dsts
told_tell rows costs net [] srcs dsts at d within tell = refl
told_tell rows costs net (column ∷ columns) srcs dsts at d within tell =
    let src = get_or srcs at d in
    let first = from_source costs net srcs dsts column.metric column.scale at d within
    ∙ (λ i. map (λ dst. option_map (scaled column.scale)
    ((told_in costs net column.metric src dst ∙ tell net column.metric src dst) i)) dsts) in
    λ i. first i ∷ told_tell rows costs net columns srcs dsts at d within tell i

-- those that constraints test
pub tested_tell : (rows : Rows) (costs : Tables) (net : Name) (types : List CostType) (srcs dsts : List Name) (at : ℕ)
    (d : Name) → at < length srcs → AreCostsOf rows costs
    → columns_at at (tested_between costs net types srcs dsts) ≡ tested_from rows net types (get_or srcs at d) dsts
tested_tell rows costs net [] srcs dsts at d within tell = refl
tested_tell rows costs net (type ∷ types) srcs dsts at d within tell =
    let src = get_or srcs at d in
    let first = from_source costs net srcs dsts type.metric scale.Numerical at d within
    ∙ (λ i. map (λ dst. (as_it_is _ ∙ (told_in costs net type.metric src dst ∙ tell net type.metric src dst)) i)
    dsts) in
    λ i. first i ∷ tested_tell rows costs net types srcs dsts at d within tell i

-- ---- pairs

-- where no constraint tests a pair, those with a cost are shown
pub untested_shown : (alternatives : List (List Constraint)) (told tested : Table) (at : ℕ)
    → one_is_empty alternatives ≡ true → has_cost (costs_at at told) ≡ is_shown alternatives told tested at
untested_shown alternatives told tested at none = rw none (by (has_cost (costs_at at told)))
  where
    by : (b : Bool) → b ≡ (b && true)
    by true = refl
    by false = refl

-- else those that were flagged
pub tested_shown : (alternatives : List (List Constraint)) (told tested : List Costs) (srcs dsts src dst : ℕ)
    (flags : List (List Bool)) → flags ≡ flags_between alternatives told tested srcs dsts → src < srcs → dst < dsts
    → flag_at flags src dst ≡ is_shown alternatives (columns_at src told) (columns_at src tested) dst
tested_shown alternatives told tested srcs dsts src dst flags made within inside =
    let row : unwrap_or (slice_get flags src) [] ≡ flags_from alternatives told tested dsts src =
    ap (λ (all : List (List Bool)). unwrap_or (slice_get all src) []) made
    ∙ (unwrap_or-slice_get (flags_between alternatives told tested srcs dsts) src []
    ∙ get_or-map-range_with_len (flags_from alternatives told tested dsts) 0 srcs src src [] within (omega arith)) in
    let shown = is_shown alternatives (columns_at src told) (columns_at src tested) in
    ap (λ (flags : List Bool). unwrap_or (slice_get flags dst) false) row
    ∙ (unwrap_or-slice_get (flags_from alternatives told tested dsts src) dst false
    ∙ get_or-map-range_with_len shown 0 dsts dst dst false inside (omega arith))

-- what is shown is the pairs of sources and destinations
pub all_between : (pairs : PairsData) (columns : List Column) (srcs dsts : List Name) (told tested : List Costs)
    (shown : Shown) → columns ≡ columns_of pairs.rows pairs.net pairs.types
    → AreShown pairs.alternatives told tested (length srcs) (length dsts) shown
    → ((at : ℕ) (d : Name) → at < length srcs
    → columns_at at told ≡ told_from pairs.rows pairs.net columns (get_or srcs at d) dsts)
    → ((at : ℕ) (d : Name) → at < length srcs
    → columns_at at tested ≡ tested_from pairs.rows pairs.net pairs.tested (get_or srcs at d) dsts)
    → rows_shown told shown (length srcs) (length dsts) ≡ map (λ src. map (pair_costs pairs src) dsts) srcs
all_between pairs columns srcs dsts told tested shown made are costs tests =
    each_place (row_shown told shown (length dsts)) (λ src. map (pair_costs pairs src) dsts) srcs 0
    (λ at d within. ap (row_shown told shown (length dsts)) (zero_more at) ∙ from at d within)
  where
    from : (at : ℕ) (d : Name) → at < length srcs
        → row_shown told shown (length dsts) at ≡ map (pair_costs pairs (get_or srcs at d)) dsts
    from at d within =
        let src = get_or srcs at d in
        let show : ℕ → Option (List (Option ℕ)) =
        λ dst. cost_shown (columns_at at told) dst (is_flagged told shown at dst) in
        each_place show (pair_costs pairs src) dsts 0
        (λ to e inside. ap show (zero_more to)
        ∙ (ap (cost_shown (columns_at at told) to) (are at to within inside)
        ∙ pair_at pairs src dsts columns (columns_at at told) (columns_at at tested) made (costs at d within)
        (tests at d within) to e inside))

-- ---- the pair at two places

-- a source that is there
row_there : (costs : List Costs) (shown : Shown) (srcs dsts src : ℕ) → src < srcs
    → pairs_at (rows_shown costs shown srcs dsts) src ≡ row_shown costs shown dsts src
row_there costs shown srcs dsts src within =
    unwrap_or-slice_get (rows_shown costs shown srcs dsts) src []
    ∙ get_or-map-range_with_len (row_shown costs shown dsts) 0 srcs src src [] within (omega arith)

-- one that isn't
row_past : (costs : List Costs) (shown : Shown) (srcs dsts src : ℕ) → srcs ≤ src
    → pairs_at (rows_shown costs shown srcs dsts) src ≡ []
row_past costs shown srcs dsts src past =
    let long : length (rows_shown costs shown srcs dsts) ≡ srcs =
    length-map-range_with_len (row_shown costs shown dsts) 0 srcs in
    ap (λ (found : Option Found). unwrap_or found [])
    (slice_get_past (rows_shown costs shown srcs dsts) src (rw long past))

there_unwrapped : {A : Type 0} (found : Option (Option A)) → if_there found ≡ unwrap_or found None
there_unwrapped None = refl
there_unwrapped (Some found) = refl

pub pair_there : (costs : List Costs) (shown : Shown) (srcs dsts src dst : ℕ) → src < srcs → dst < dsts
    → if_there (slice_get (pairs_at (rows_shown costs shown srcs dsts) src) dst)
    ≡ cost_shown (columns_at src costs) dst (is_flagged costs shown src dst)
pair_there costs shown srcs dsts src dst within inside =
    let show : ℕ → Option (List (Option ℕ)) =
    λ dst. cost_shown (columns_at src costs) dst (is_flagged costs shown src dst) in
    ap (λ (row : Found). if_there (slice_get row dst)) (row_there costs shown srcs dsts src within)
    ∙ (there_unwrapped (slice_get (row_shown costs shown dsts src) dst)
    ∙ (unwrap_or-slice_get (row_shown costs shown dsts src) dst None
    ∙ get_or-map-range_with_len show 0 dsts dst dst None inside (omega arith)))

pub no_source : (costs : List Costs) (shown : Shown) (srcs dsts src dst : ℕ) → srcs ≤ src
    → if_there (slice_get (pairs_at (rows_shown costs shown srcs dsts) src) dst) ≡ None
no_source costs shown srcs dsts src dst past =
    ap (λ (row : Found). if_there (slice_get row dst)) (row_past costs shown srcs dsts src past)

-- a source has pairs with no more destinations
short : (costs : List Costs) (shown : Shown) (srcs dsts src : ℕ)
    → length (pairs_at (rows_shown costs shown srcs dsts) src) ≤ dsts
short costs shown srcs dsts src =
    by (length-map-range_with_len (row_shown costs shown dsts) 0 srcs)
    (slice_get_cases (rows_shown costs shown srcs dsts) src).1
  where
    by : length (rows_shown costs shown srcs dsts) ≡ srcs
        → ((row : Found) × (src < length (rows_shown costs shown srcs dsts))
        × (slice_get (rows_shown costs shown srcs dsts) src ≡ Some row)
        × (get_or (rows_shown costs shown srcs dsts) src row ≡ row))
        ⊎ ((length (rows_shown costs shown srcs dsts) ≤ src)
        × (slice_get (rows_shown costs shown srcs dsts) src ≡ None))
        → length (pairs_at (rows_shown costs shown srcs dsts) src) ≤ dsts
    by count (inl p) =
        let show : ℕ → Option (List (Option ℕ)) =
        λ dst. cost_shown (columns_at src costs) dst (is_flagged costs shown src dst) in
        let long : length (pairs_at (rows_shown costs shown srcs dsts) src) ≡ dsts =
        ap length (row_there costs shown srcs dsts src (rw count at p.1)) ∙ length-map-range_with_len show 0 dsts in
        rw long (omega arith)
    by count (inr p) = rw p.1 (omega arith)

pub none_past : (costs : List Costs) (shown : Shown) (srcs dsts src : ℕ)
    → drop dsts (pairs_at (rows_shown costs shown srcs dsts) src) ≡ []
none_past costs shown srcs dsts src =
    drop_all dsts (pairs_at (rows_shown costs shown srcs dsts) src) (short costs shown srcs dsts src)

pub no_destination : (costs : List Costs) (shown : Shown) (srcs dsts src dst : ℕ) → dsts ≤ dst
    → if_there (slice_get (pairs_at (rows_shown costs shown srcs dsts) src) dst) ≡ None
no_destination costs shown srcs dsts src dst past =
    let row = pairs_at (rows_shown costs shown srcs dsts) src in
    let few : length row ≤ dsts = short costs shown srcs dsts src in
    let all : length row ≤ dst = omega arith in
    ap (λ found. if_there found) (slice_get_past row dst all)

-- what makes a pair are the costs there
shown_costs : (told : Table) (at : ℕ) (flag : Bool) → is_some (cost_shown told at flag) ≡ true
    → cost_shown told at flag ≡ Some (costs_at at told)
shown_costs told at true is = refl
shown_costs told at false is = cc

pub pair_costs_at : (costs : List Costs) (shown : Shown) (srcs dsts src dst : ℕ)
    → is_some (if_there (slice_get (pairs_at (rows_shown costs shown srcs dsts) src) dst)) ≡ true
    → if_there (slice_get (pairs_at (rows_shown costs shown srcs dsts) src) dst)
    ≡ Some (costs_at dst (columns_at src costs))
pair_costs_at costs shown srcs dsts src dst is = by (nat_lt src srcs) (nat_lt dst dsts) refl refl
  where
    by : (a b : Bool) → nat_lt src srcs ≡ a → nat_lt dst dsts ≡ b
        → if_there (slice_get (pairs_at (rows_shown costs shown srcs dsts) src) dst)
        ≡ Some (costs_at dst (columns_at src costs))
    by true true e f =
        let within : src < srcs = grind (arith, nat_tests) in
        let inside : dst < dsts = grind (arith, nat_tests) in
        let there = pair_there costs shown srcs dsts src dst within inside in
        there ∙ shown_costs (columns_at src costs) dst (is_flagged costs shown src dst) (rw there at is)
    by true false e f =
        let past : dsts ≤ dst = grind (arith, nat_tests) in
        let none : false ≡ true = rw (no_destination costs shown srcs dsts src dst past) at is in cc
    by false b e f =
        let past : srcs ≤ src = grind (arith, nat_tests) in
        let none : false ≡ true = rw (no_source costs shown srcs dsts src dst past) at is in cc

-- a destination that makes no pair can be passed over
pub any_past : (row : Found) (at : ℕ) → is_some (if_there (slice_get row at)) ≡ false
    → list_any (λ pair. is_some pair) (drop (at + 1) row) ≡ list_any (λ pair. is_some pair) (drop at row)
any_past [] at none =
    ap (list_any (λ pair. is_some pair)) (drop_all (at + 1) [] (omega arith) ∙ sym (drop_all at [] (omega arith)))
any_past (None ∷ row) zero none = refl
any_past (Some costs ∷ row) zero none = cc
any_past (pair ∷ row) (suc at) none =
    let step : suc at + 1 ≡ suc (at + 1) = omega arith in
    ap (λ n. list_any (λ pair. is_some pair) (drop n (pair ∷ row))) step ∙ any_past row at none

-- one that makes a pair tells it of all
pub one_any : (row : Found) (at : ℕ) → is_some (if_there (slice_get row at)) ≡ true
    → list_any (λ pair. is_some pair) row ≡ true
one_any [] at is = cc
one_any (None ∷ row) zero is = cc
one_any (Some costs ∷ row) zero is = refl
one_any (None ∷ row) (suc at) is = one_any row at is
one_any (Some costs ∷ row) (suc at) is = refl

-- ---- one column

-- the pair that one cost makes
one_pair : (told : List (Option ℕ)) (dst : ℕ)
    → cost_shown (told ∷ []) dst (has_cost (costs_at dst (told ∷ []))) ≡ one_cost (if_there (slice_get told dst))
one_pair told dst = by (if_there (slice_get told dst)) refl
  where
    by : (cost : Option ℕ) → if_there (slice_get told dst) ≡ cost
        → cost_shown (told ∷ []) dst (has_cost (costs_at dst (told ∷ []))) ≡ one_cost (if_there (slice_get told dst))
    by None e = rw e refl
    by (Some cost) e = rw e refl

-- the pairs of a source where all costs of one column are shown
pub single_pairs : (columns : List Costs) (srcs dsts src : ℕ) (told : List (Option ℕ)) → src < srcs
    → columns_at src columns ≡ told ∷ [] → length told ≡ dsts
    → pairs_at (rows_shown columns shown_as.WithCost srcs dsts) src ≡ map one_cost told
single_pairs columns srcs dsts src told within is long =
    let show : Table → ℕ → Option (List (Option ℕ)) =
    λ table dst. cost_shown table dst (has_cost (costs_at dst table)) in
    row_there columns shown_as.WithCost srcs dsts src within
    ∙ ((λ i. map (show (is i)) (range_with_len 0 (sym long i)))
    ∙ each_place (show (told ∷ [])) one_cost told 0
    (λ at d inside. ap (show (told ∷ [])) (zero_more at)
    ∙ (one_pair told at
    ∙ ap one_cost (there_unwrapped (slice_get told at)
    ∙ (unwrap_or-slice_get told at None ∙ get_or_default told at None d inside)))))

-- the only column of a source
pub only_column : (columns : List Costs) (column : Costs) (src : ℕ) (told : List (Option ℕ)) → length columns ≡ 1
    → slice_get columns 0 ≡ Some column → told ≡ unwrap_or (slice_get column src) []
    → columns_at src columns ≡ told ∷ []
only_column [] column src told one is costs = absurd (omega (arith, one))
only_column (first ∷ []) column src told one is costs =
    let same : first ≡ column = cc in
    λ i. (ap (λ (column : Costs). unwrap_or (slice_get column src) []) same ∙ sym costs) i ∷ []
only_column (first ∷ second ∷ more) column src told one is costs = absurd (omega (arith, one))

-- costs that are told as they are
pub costs_as_they_are : (rows : Costs) → rows ≡ costs_as scale.Numerical rows
costs_as_they_are [] = refl
costs_as_they_are (row ∷ rows) = λ i. all_numerical row i ∷ costs_as_they_are rows i

-- the pair of the cost at a place
pub one_at : (costs : List (Option ℕ)) (dst : ℕ)
    → one_cost (if_there (slice_get costs dst)) ≡ if_there (slice_get (map one_cost costs) dst)
one_at [] dst = refl
one_at (None ∷ costs) zero = refl
one_at (Some cost ∷ costs) zero = refl
one_at (cost ∷ costs) (suc dst) = one_at costs dst

-- whether there is one
pub one_is : (cost : Option ℕ) → is_some cost ≡ is_some (one_cost cost)
one_is None = refl
one_is (Some cost) = refl

pub one_of : (costs : List (Option ℕ))
    → list_any (λ cost. is_some cost) costs ≡ list_any (λ pair. is_some pair) (map one_cost costs)
one_of [] = refl
one_of (None ∷ costs) = one_of costs
one_of (Some cost ∷ costs) = refl
