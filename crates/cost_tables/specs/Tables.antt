-- The costs of rows as tables tell them: by network and metric, then by source, then by destination.
use Rattle.std.specs.Prelude.{◌≡◌, ℕ, Bool, ◌&&◌, List, [], Option, Some, None, option_and_then, if◌then◌else◌}
use Rattle.std.specs.Prelude.{map, unwrap_or}
use Rattle.std.specs.BTreeMap.{is_at}
use Rattle.std.specs.List.{filter_map, list_any}
use Rattle.std.specs.List.Sorted.{IsStrictlySortedBy}
use Rattle.std.specs.Map.{lookup}
use Rattle.alto_rows.specs.declared.key.Key.{Key}
use Rattle.alto_rows.specs.declared.key.Key.TheVariants as key
use Rattle.alto_rows.specs.declared.span.Span.TheVariants as span
use Rattle.alto_rows.specs.declared.value.Value.{Value}
use Rattle.alto_rows.specs.declared.value.Value.TheVariants as value
use Rattle.alto_rows.specs.Costs.{cost_of}
use Rattle.alto_rows.specs.Order.{name_cmp, same_name}
use Rattle.alto_rows.specs.Rows.{Rows}
use Rattle.alto_rows.specs.Span.{rows_in}

abbrev pub Name : Type 0
Name = List ℕ

-- the costs from a source, by destination
abbrev pub Costs : Type 0
Costs = List (Name × ℕ)

-- the costs of a metric, by source
abbrev pub Table : Type 0
Table = List (Name × Costs)

-- tables, by network and metric
abbrev pub Tables : Type 0
Tables = List ((Name × Name) × Table)

-- the cost to a destination
abbrev pub cost_to : Costs → Name → Option ℕ
cost_to costs dst = lookup (is_at (name_cmp dst)) costs

-- the costs from a source, if it has any
abbrev pub costs_if_any : Option Costs → Costs
costs_if_any costs = unwrap_or costs []

-- the cost of a pair in a table
abbrev pub cost_told : Table → Name → Name → Option ℕ
cost_told table src dst = option_and_then (λ costs. cost_to costs dst) (lookup (is_at (name_cmp src)) table)

-- the costs of pairs in a table, by source
abbrev pub costs_between : Table → List Name → List Name → List (List (Option ℕ))
costs_between table srcs dsts = map (λ src. map (cost_told table src) dsts) srcs

-- a network and a metric are these
abbrev pub is_of : Name → Name → Name × Name → Bool
is_of net metric of = same_name net of.0 && same_name metric of.1

-- the cost of a pair in tables
abbrev pub cost_in : Tables → Name → Name → Name → Name → Option ℕ
cost_in tables net metric src dst =
    option_and_then (λ table. cost_told table src dst) (lookup (is_of net metric) tables)

-- the costs of a metric of a network in tables
abbrev pub costs_of : Tables → Name → Name → Table
costs_of tables net metric = unwrap_or (lookup (is_of net metric) tables) []

-- tables tell the costs of rows
abbrev pub AreCostsOf : Rows → Tables → Type 0
AreCostsOf rows tables = (net metric src dst : Name)
    → cost_in tables net metric src dst ≡ cost_of rows net metric src dst

-- a table tells the costs of a metric
abbrev pub TellsCosts : Rows → Name → Name → Table → Type 0
TellsCosts rows net metric table = (src dst : Name) → cost_told table src dst ≡ cost_of rows net metric src dst

-- the destination and the cost that a row gives
abbrev pub cost_given : Key × Value → Option (Name × ℕ)
cost_given (key.Cost net metric src dst, value.Num n) = Some (dst, n)
cost_given _ = None

-- the destination of a cost of a metric from a source that a key is of
abbrev pub destination_of : Name → Name → Name → Key → Option Name
destination_of net metric src (key.Cost of kind from to) =
    if same_name net of && same_name metric kind && same_name src from then Some to else None
destination_of net metric src _ = None

-- these are the costs from a source in rows
abbrev pub HasCostsOf : Rows → Name → Name → Name → Costs → Type 0
HasCostsOf rows net metric src costs = (dst : Name) → cost_to costs dst ≡ cost_of rows net metric src dst

-- the costs from a source that rows give
abbrev pub costs_from : Rows → Name → Name → Name → Costs
costs_from rows net metric src = filter_map cost_given (rows_in rows (span.CostsFrom net metric src))

-- the source of a cost of a metric that a key is of
abbrev pub source_of : Name → Name → Key → Option Name
source_of net metric (key.Cost of kind src dst) =
    if same_name net of && same_name metric kind then Some src else None
source_of net metric _ = None

-- the sources of the costs of a metric that these keys are of
abbrev pub sources_of : Name → Name → List Key → List Name
sources_of net metric keys = filter_map (source_of net metric) keys

-- these names rise, and are those of a list
pub record IsSetOf (names all : List Name) : Type 0 where
  pub rise : IsStrictlySortedBy name_cmp names
  pub same : (name : Name) → list_any (same_name name) names ≡ list_any (same_name name) all
