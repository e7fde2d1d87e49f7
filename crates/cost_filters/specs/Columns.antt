-- Asked cost types made ready for many pairs, and objects of the names that have a value.
use Rattle.std.specs.Prelude.{ℕ, List, [], ◌∷◌, Bool, true, false, Option, Some, None, map, option_map, if◌then◌else◌}
use Rattle.std.specs.List.{filter_map, flat_map}
use Rattle.serde_json.specs.Data.{Data}
use Rattle.json_tree.specs.Document.{object_of}
use Rattle.alto_rows.specs.declared.key.Key.{Key}
use Rattle.alto_rows.specs.declared.key.Key.TheVariants as key
use Rattle.alto_rows.specs.declared.value.Value.{Value}
use Rattle.alto_rows.specs.Rows.{Rows}
use Rattle.alto_maps.specs.Shape.{Name}
use Rattle.net_docs.specs.NetworkMap.{pids_of}
use Rattle.net_docs.specs.declared.ask.Pick.{Pick}
use Rattle.net_docs.specs.declared.ask.Pick.TheVariants as pick
use Rattle.alto_rows.specs.Costs.{cost_of}
use Rattle.cost_docs.specs.CostMap.{destinations_of}
use Rattle.cost_docs.specs.Ordinal.{distinct_costs, rank_among}
use Rattle.cost_filters.specs.declared.columns.Column.{Column}
use Rattle.cost_filters.specs.declared.columns.Scale.{Scale}
use Rattle.cost_filters.specs.declared.columns.Scale.TheVariants as scale
use Rattle.cost_filters.specs.declared.types.CostType.{CostType}
use Rattle.cost_filters.specs.Ask.{CostAskData}
use Rattle.cost_filters.specs.Filter.{costs_data, costs_of, is_pair}

-- how the costs of a type are told
abbrev pub scale_of : Rows → Name → CostType → Scale
scale_of rows net type = if type.ordinal then scale.Ordinal (distinct_costs rows net type.metric) else scale.Numerical

-- a type's metric, and how its costs are told
abbrev pub column_of : Rows → Name → CostType → Column
column_of rows net type = record { metric = type.metric; scale = scale_of rows net type }

-- those of types
abbrev pub columns_of : Rows → Name → List CostType → List Column
columns_of rows net types = map (column_of rows net) types

-- a cost as it is told
abbrev pub scaled : Scale → ℕ → ℕ
scaled scale.Numerical cost = cost
scaled (scale.Ordinal costs) cost = rank_among costs cost

-- the cost of a pair in a column
abbrev pub column_cost : Rows → Name → Name → Name → Column → Option ℕ
column_cost rows net src dst column = option_map (scaled column.scale) (cost_of rows net column.metric src dst)

-- the value of a pair, where it is one
abbrev pub pair_value : Rows → Name → CostAskData → Name → Name → Option Data
pair_value rows net ask src dst =
    if is_pair rows net ask src dst then Some (costs_data ask.multi (costs_of rows net ask.types src dst)) else None

-- the destination of a row's cost
abbrev pub destination : Key × Value → Option Name
destination (key.Cost net metric src dst, v) = Some dst
destination _ = None

-- the PIDs to which a source has a cost in one of these metrics
abbrev pub reached : Rows → Name → List Column → Name → List Name
reached rows net columns src = flat_map (λ column. destinations_of rows net column.metric src) columns

-- the PIDs that may be shown to a source
abbrev pub dsts_tried : Rows → Name → List Column → Pick → Name → List Name
dsts_tried rows net columns pick.All src = reached rows net columns src
dsts_tried rows net columns (pick.Only names) src = names

-- the PIDs that may be sources
abbrev pub srcs_tried : Rows → Name → Pick → List Name
srcs_tried rows net pick.All = pids_of rows net
srcs_tried rows net (pick.Only names) = names

-- the names that have a value, each with its own
abbrev pub valued : (Name → Option Data) → List Name → List (Name × Data)
valued value names = filter_map (λ name. option_map (λ found. (name, found)) (value name)) names

-- there is a member
abbrev pub has_member : List (Name × Data) → Bool
has_member [] = false
has_member (member ∷ members) = true

-- the object with these members, where there are any
abbrev pub object_if_any : List (Name × Data) → Option Data
object_if_any members = if has_member members then Some (object_of members) else None

-- the group of a source, where it has a pair
abbrev pub group_value : Rows → Name → CostAskData → Name → Option Data
group_value rows net ask src =
    object_if_any
    (valued (pair_value rows net ask src) (dsts_tried rows net (columns_of rows net ask.types) ask.dsts src))
