-- The costs of a metric one by one, and the groups of a map that shows them, or their ranks.
use Rattle.std.specs.Prelude.{ℕ, Bool, true, false, List, [], ◌∷◌, Option, Some, None, map, option_map}
use Rattle.std.specs.List.{filter_map}
use Rattle.serde_json.specs.Data.{Data}
use Rattle.json_tree.specs.Document.{object_of}
use Rattle.alto_rows.specs.declared.key.Key.{Key}
use Rattle.alto_rows.specs.declared.key.Key.TheVariants as key
use Rattle.alto_rows.specs.declared.span.Span.{Span}
use Rattle.alto_rows.specs.declared.value.Value.{Value}
use Rattle.alto_rows.specs.declared.value.Value.TheVariants as value
use Rattle.alto_rows.specs.Rows.{Rows}
use Rattle.alto_rows.specs.Span.{rows_in}
use Rattle.alto_maps.specs.Shape.{Name}
use Rattle.cost_docs.specs.declared.costs.Cost.{Cost}
use Rattle.alto_rows.specs.Costs.{cost_of}
use Rattle.cost_docs.specs.CostMap.{destinations_of, number_data, sources_of}
use Rattle.cost_docs.specs.Ordinal.{rank_among}

-- the cost that a row gives
abbrev pub cost_given : Key × Value → Option Cost
cost_given (key.Cost net metric src dst, value.Num n) = Some (record { source = src; destination = dst; amount = n })
cost_given _ = None

-- the costs of a span, by their keys
abbrev pub costs_within : Rows → Span → List Cost
costs_within rows span = filter_map cost_given (rows_in rows span)

-- the number that stands for a cost: its rank among these, or, with none, the cost itself
abbrev pub shown : Option (List ℕ) → ℕ → ℕ
shown None cost = cost
shown (Some costs) cost = rank_among costs cost

-- the number that stands for the cost of a pair
abbrev pub value_shown : Option (List ℕ) → Rows → Name → Name → Name → Name → Data
value_shown ranks rows net metric src dst = number_data (option_map (shown ranks) (cost_of rows net metric src dst))

-- the group of a source
abbrev pub group_shown : Option (List ℕ) → Rows → Name → Name → Name → Data
group_shown ranks rows net metric src =
    object_of
    (map (λ dst. (dst, value_shown ranks rows net metric src dst)) (destinations_of rows net metric src))

-- the group of costs of one source
abbrev pub group_of : Option (List ℕ) → List Cost → Data
group_of ranks costs =
    object_of (map (λ (cost : Cost). (cost.destination, number_data (Some (shown ranks cost.amount)))) costs)

-- the groups of these sources
abbrev pub groups_among : Option (List ℕ) → Rows → Name → Name → List Name → Data
groups_among ranks rows net metric sources =
    object_of (map (λ src. (src, group_shown ranks rows net metric src)) sources)

-- the groups of all sources
abbrev pub groups_shown : Option (List ℕ) → Rows → Name → Name → Data
groups_shown ranks rows net metric = groups_among ranks rows net metric (sources_of rows net metric)

-- there is a row
abbrev pub has_rows : Rows → Bool
has_rows [] = false
has_rows (row ∷ rows) = true
