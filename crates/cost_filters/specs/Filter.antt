-- The cost map cut to what is asked (RFC 7285, section 11.3.2.5; RFC 8189, section 4.1.3): pairs of PIDs with their
-- costs.
use Rattle.std.specs.Prelude.{ℕ, List, [], ◌∷◌, Bool, true, false, ◌&&◌, Option, is_some, filter, map}
use Rattle.std.specs.Prelude.{codes, if◌then◌else◌}
use Rattle.std.specs.List.{list_any}
use Rattle.serde_json.specs.Data.{Data, null}
use Rattle.json_tree.specs.Document.{array_of, object_of}
use Rattle.alto_rows.specs.Rows.{Rows}
use Rattle.alto_maps.specs.Shape.{Name, Face, document}
use Rattle.net_docs.specs.Filter.{is_picked}
use Rattle.net_docs.specs.NetworkMap.{dependent_tags, pids_of}
use Rattle.alto_rows.specs.Costs.{cost_of}
use Rattle.cost_docs.specs.CostMap.{cost_shape, cost_type, number_data}
use Rattle.cost_docs.specs.Ordinal.{ordinal_cost_of}
use Rattle.cost_filters.specs.declared.types.CostType.{CostType}
use Rattle.cost_filters.specs.Ask.{CostAskData}
use Rattle.cost_filters.specs.Holds.{one_holds}

-- ---- which pairs

-- the cost of a pair by a cost type: in ordinal mode its rank among all costs of the metric
abbrev pub typed_cost : Rows → Name → Name → Name → CostType → Option ℕ
typed_cost rows net src dst type =
    if type.ordinal then ordinal_cost_of rows net type.metric src dst else cost_of rows net type.metric src dst

-- the costs of a pair by these types, None where it has none
abbrev pub costs_of : Rows → Name → List CostType → Name → Name → List (Option ℕ)
costs_of rows net types src dst = map (typed_cost rows net src dst) types

-- the costs of a pair that constraints test: never ranks
abbrev pub tested_costs : Rows → Name → List CostType → Name → Name → List (Option ℕ)
tested_costs rows net types src dst = map (λ type. cost_of rows net type.metric src dst) types

-- a pair has a cost by an asked type, and the constraints hold of it
abbrev pub is_pair : Rows → Name → CostAskData → Name → Name → Bool
is_pair rows net ask src dst =
    list_any (λ cost. is_some cost) (costs_of rows net ask.types src dst)
    && one_holds (tested_costs rows net ask.tested src dst) ask.alternatives

-- the PIDs to which a source is shown: those that are asked for and make a pair with it
abbrev pub dsts_shown : Rows → Name → CostAskData → Name → List Name
dsts_shown rows net ask src = filter (λ dst. is_picked ask.dsts dst && is_pair rows net ask src dst) (pids_of rows net)

-- there is a name
abbrev pub has_name : List Name → Bool
has_name [] = false
has_name (name ∷ names) = true

-- the sources: PIDs that are asked for and are shown to some other
abbrev pub srcs_shown : Rows → Name → CostAskData → List Name
srcs_shown rows net ask =
    filter (λ src. is_picked ask.srcs src && has_name (dsts_shown rows net ask src)) (pids_of rows net)

-- ---- what is shown of them

-- the first of these values
abbrev pub first_value : List Data → Data
first_value [] = null
first_value (value ∷ values) = value

-- costs as JSON: in the form of several a list, else the one
abbrev pub costs_data : Bool → List (Option ℕ) → Data
costs_data true costs = array_of (map number_data costs)
costs_data false costs = first_value (map number_data costs)

-- the mode of a cost type
abbrev pub mode_of : CostType → Name
mode_of type = if type.ordinal then codes "ordinal" else codes "numerical"

-- a cost type as JSON
abbrev pub type_data : CostType → Data
type_data type = cost_type type.metric (mode_of type)

-- the name of the meta's member that tells the cost types, and the types in the order in which they are asked for
abbrev pub types_name : Bool → Name
types_name true = codes "multi-cost-types"
types_name false = codes "cost-type"

abbrev pub types_data : Bool → List CostType → Data
types_data true types = array_of (map type_data types)
types_data false types = first_value (map type_data types)

-- the meta
abbrev pub filtered_meta : Rows → Name → CostAskData → Data
filtered_meta rows net ask =
    object_of
    ((types_name ask.multi, types_data ask.multi ask.types) ∷ (codes "dependent-vtags", dependent_tags rows net) ∷ [])

-- what the filtered map shows
abbrev pub filtered_face : Rows → Name → CostAskData → Face
filtered_face rows net ask = record {
  meta = filtered_meta rows net ask;
  version = dependent_tags rows net;
  groups = srcs_shown rows net ask;
  members = dsts_shown rows net ask;
  value = λ src dst. costs_data ask.multi (costs_of rows net ask.types src dst);
}

-- the filtered cost map
abbrev pub filtered_costs : Rows → Name → CostAskData → Data
filtered_costs rows net ask = document cost_shape (filtered_face rows net ask)
