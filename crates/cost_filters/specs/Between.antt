-- Costs and pairs between sources and destinations, which are told by their places.
use Rattle.std.specs.Prelude.{◌≡◌, ◌<◌, ℕ, List, [], ◌∷◌, Bool, false, Option, Some, map, option_map, slice_get}
use Rattle.std.specs.Prelude.{unwrap_or}
use Rattle.std.specs.List.{range_with_len}
use Rattle.alto_maps.specs.Shape.{Name}
use Rattle.cost_tables.specs.Tables as tables
use Rattle.cost_rule.specs.declared.constraint.Constraint.{Constraint}
use Rattle.cost_filters.specs.declared.columns.Column.{Column}
use Rattle.cost_filters.specs.declared.columns.Scale.{Scale}
use Rattle.cost_filters.specs.declared.columns.Scale.TheVariants as scale
use Rattle.cost_filters.specs.declared.pairs_between.Shown.{Shown}
use Rattle.cost_filters.specs.declared.pairs_between.Shown.TheVariants as shown
use Rattle.cost_filters.specs.declared.types.CostType.{CostType}
use Rattle.cost_filters.specs.Columns.{scaled}
use Rattle.cost_filters.specs.Pairs.{Table, cost_shown, costs_at, has_cost, if_there, is_shown}

-- ---- costs of a column

-- costs by source, for each destination
abbrev pub Costs : Type 0
Costs = List (List (Option ℕ))

-- costs as they are told
abbrev pub costs_as : Scale → Costs → Costs
costs_as of costs = map (map (option_map (scaled of))) costs

-- those of a metric of a network
abbrev pub column_between : tables.Tables → Name → List Name → List Name → Name → Scale → Costs
column_between costs net srcs dsts metric of =
    costs_as of (tables.costs_between (tables.costs_of costs net metric) srcs dsts)

-- the cost between a source and a destination at these places
abbrev pub cost_between : Costs → ℕ → ℕ → Option ℕ
cost_between costs src dst = if_there (slice_get (unwrap_or (slice_get costs src) []) dst)

-- ---- all columns

-- those of columns
abbrev pub told_between : tables.Tables → Name → List Column → List Name → List Name → List Costs
told_between costs net columns srcs dsts =
    map (λ column. column_between costs net srcs dsts column.metric column.scale) columns

-- those of the metrics that types have, never as ranks
abbrev pub tested_between : tables.Tables → Name → List CostType → List Name → List Name → List Costs
tested_between costs net types srcs dsts =
    map (λ type. column_between costs net srcs dsts type.metric scale.Numerical) types

-- the columns of the source at a place
abbrev pub columns_at : ℕ → List Costs → Table
columns_at src columns = map (λ costs. unwrap_or (slice_get costs src) []) columns

-- ---- pairs

-- the pairs of a source: for each destination the costs by the asked types, where it is one
abbrev pub Found : Type 0
Found = List (Option (List (Option ℕ)))

-- the flag at these places
abbrev pub flag_at : List (List Bool) → ℕ → ℕ → Bool
flag_at flags src dst = unwrap_or (slice_get (unwrap_or (slice_get flags src) []) dst) false

-- the costs at these places are shown
abbrev pub is_flagged : List Costs → Shown → ℕ → ℕ → Bool
is_flagged costs shown.WithCost src dst = has_cost (costs_at dst (columns_at src costs))
is_flagged costs (shown.Flagged flags) src dst = flag_at (map (λ row. row.items) flags.items) src dst

-- the pairs of the source at a place with so many destinations
abbrev pub row_shown : List Costs → Shown → ℕ → ℕ → Found
row_shown costs shown dsts src =
    map (λ dst. cost_shown (columns_at src costs) dst (is_flagged costs shown src dst)) (range_with_len 0 dsts)

-- those of so many sources
abbrev pub rows_shown : List Costs → Shown → ℕ → ℕ → List Found
rows_shown costs shown srcs dsts = map (row_shown costs shown dsts) (range_with_len 0 srcs)

-- the pair with one cost, if there is one
abbrev pub one_cost : Option ℕ → Option (List (Option ℕ))
one_cost cost = option_map (λ cost. Some cost ∷ []) cost

-- the pairs of the source at a place
abbrev pub pairs_at : List Found → ℕ → Found
pairs_at pairs src = unwrap_or (slice_get pairs src) []

-- ---- pairs that constraints test

-- which costs of the source at a place with so many destinations make a pair
abbrev pub flags_from : List (List Constraint) → List Costs → List Costs → ℕ → ℕ → List Bool
flags_from alternatives told tested dsts src =
    map (is_shown alternatives (columns_at src told) (columns_at src tested)) (range_with_len 0 dsts)

-- those of so many sources
abbrev pub flags_between : List (List Constraint) → List Costs → List Costs → ℕ → ℕ → List (List Bool)
flags_between alternatives told tested srcs dsts =
    map (flags_from alternatives told tested dsts) (range_with_len 0 srcs)

-- the costs that are shown between so many sources and destinations are those that make a pair
abbrev pub AreShown : List (List Constraint) → List Costs → List Costs → ℕ → ℕ → Shown → Type 0
AreShown alternatives told tested srcs dsts shown = (src dst : ℕ) → src < srcs → dst < dsts
    → is_flagged told shown src dst ≡ is_shown alternatives (columns_at src told) (columns_at src tested) dst
