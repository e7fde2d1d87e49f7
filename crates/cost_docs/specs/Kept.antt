-- The group of a source as costs by destination tell it.
use Rattle.std.specs.Prelude.{ℕ, Some, map}
use Rattle.serde_json.specs.Data.{Data, object}
use Rattle.json_tree.specs.Tree.{members_in_order}
use Rattle.alto_maps.specs.Shape.{Name}
use Rattle.cost_docs.specs.CostMap.{number_data}
use Rattle.cost_tables.specs.Tables.{Costs}

-- a cost as a member
abbrev pub cost_member : Name × ℕ → Name × Data
cost_member cost = (cost.0, number_data (Some cost.1))

-- costs as an object
abbrev pub costs_object : Costs → Data
costs_object costs = object (members_in_order (map cost_member costs))
