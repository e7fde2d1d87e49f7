-- The pairs that cost types and constraints make, source by source.
use Rattle.std.specs.Prelude.{ℕ, nat_eq, List, Bool, ◌&&◌, ◌||◌, Option, Some, None, is_some, length, map}
use Rattle.std.specs.Prelude.{option_map, slice_get, if◌then◌else◌}
use Rattle.std.specs.List.{list_any}
use Rattle.serde_json.specs.Data.{Data}
use Rattle.alto_rows.specs.Rows.{Rows}
use Rattle.alto_maps.specs.Shape.{Name}
use Rattle.net_docs.specs.declared.ask.Pick.{Pick}
use Rattle.alto_rows.specs.Costs.{cost_of}
use Rattle.cost_rule.specs.declared.constraint.Constraint.{Constraint}
use Rattle.cost_filters.specs.declared.columns.Column.{Column}
use Rattle.cost_filters.specs.declared.types.CostType.{CostType}
use Rattle.cost_filters.specs.Ask.{CostAskData}
use Rattle.cost_filters.specs.Columns.{column_cost, columns_of, dsts_tried, object_if_any, valued}
use Rattle.cost_filters.specs.Filter.{costs_data, costs_of, tested_costs}
use Rattle.cost_filters.specs.Holds.{one_holds}

-- cost types and constraints that are asked of the pairs of a network at some rows
pub record PairsData : Type 0 where
  pub rows : Rows
  pub net : Name
  pub types : List CostType
  pub tested : List CostType
  pub alternatives : List (List Constraint)

-- those of an ask
abbrev pub pairs_of : Rows → Name → CostAskData → PairsData
pairs_of rows net ask = record {
  rows = rows;
  net = net;
  types = ask.types;
  tested = ask.tested;
  alternatives = ask.alternatives;
}

-- there is a cost
abbrev pub has_cost : List (Option ℕ) → Bool
has_cost costs = list_any (λ cost. is_some cost) costs

-- one of the lists has no constraint, so it holds of every pair
abbrev pub one_is_empty : List (List Constraint) → Bool
one_is_empty alternatives = list_any (λ constraints. nat_eq (length constraints) 0) alternatives

-- the costs of a pair, where it has one by an asked type and the constraints hold of it
abbrev pub pair_costs : PairsData → Name → Name → Option (List (Option ℕ))
pair_costs pairs src dst =
    if has_cost (costs_of pairs.rows pairs.net pairs.types src dst)
    && one_holds (tested_costs pairs.rows pairs.net pairs.tested src dst) pairs.alternatives
    then Some (costs_of pairs.rows pairs.net pairs.types src dst) else None

-- the value of a pair, where it is one
abbrev pub pair_shown : Bool → PairsData → Name → Name → Option Data
pair_shown multi pairs src dst = option_map (costs_data multi) (pair_costs pairs src dst)

-- the group of a source, where it has a pair with one of the PIDs that are picked
abbrev pub group_shown : Bool → Pick → PairsData → Name → Option Data
group_shown multi dsts pairs src =
    object_if_any
    (valued (pair_shown multi pairs src)
    (dsts_tried pairs.rows pairs.net (columns_of pairs.rows pairs.net pairs.types) dsts src))

-- ---- costs by column

-- columns of costs, each with one for each destination
abbrev pub Table : Type 0
Table = List (List (Option ℕ))

-- what is there, if anything is
abbrev pub if_there : {A : Type 0} → Option (Option A) → Option A
if_there (Some found) = found
if_there None = None

-- the costs at a place of the columns
abbrev pub costs_at : ℕ → Table → List (Option ℕ)
costs_at at table = map (λ costs. if_there (slice_get costs at)) table

-- the costs by asked types
abbrev pub told_from : Rows → Name → List Column → Name → List Name → Table
told_from rows net columns src dsts = map (λ column. map (λ dst. column_cost rows net src dst column) dsts) columns

-- the costs that constraints test
abbrev pub tested_from : Rows → Name → List CostType → Name → List Name → Table
tested_from rows net types src dsts = map (λ type. map (λ dst. cost_of rows net type.metric src dst) dsts) types

-- the costs at a place of both make a pair
abbrev pub is_shown : List (List Constraint) → Table → Table → ℕ → Bool
is_shown alternatives told tested at =
    has_cost (costs_at at told) && (one_is_empty alternatives || one_holds (costs_at at tested) alternatives)

-- the costs at a place, where they are shown
abbrev pub cost_shown : Table → ℕ → Bool → Option (List (Option ℕ))
cost_shown told at shown = if shown then Some (costs_at at told) else None
