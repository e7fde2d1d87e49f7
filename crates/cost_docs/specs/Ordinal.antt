-- Ordinal costs (RFC 7285, section 6.1.2.2): the rank of a cost among those of its metric, the lowest first.
use Rattle.std.specs.Prelude.{ℕ, ◌+◌, nat_lt, List, [], ◌&&◌, Option, Some, None, filter, fold, length, option_map}
use Rattle.std.specs.Prelude.{codes, if◌then◌else◌}
use Rattle.std.specs.BTreeSet.{insert_key}
use Rattle.std.specs.List.{filter_map}
use Rattle.std.specs.Ordering.{nat_cmp}
use Rattle.serde_json.specs.Data.{Data}
use Rattle.alto_rows.specs.declared.key.Key.{Key}
use Rattle.alto_rows.specs.declared.key.Key.TheVariants as key
use Rattle.alto_rows.specs.declared.value.Value.{Value}
use Rattle.alto_rows.specs.Order.{same_name}
use Rattle.alto_rows.specs.Rows.{Rows}
use Rattle.alto_maps.specs.Shape.{Name, Face, document}
use Rattle.net_docs.specs.NetworkMap.{dependent_tags}
use Rattle.alto_rows.specs.Costs.{cost_of, number_at}
use Rattle.cost_docs.specs.CostMap.{cost_meta, cost_shape, destinations_of}
use Rattle.cost_docs.specs.CostMap.{number_data, sources_of}

-- the cost of this metric that a row gives
abbrev pub cost_in : Name → Name → Key × Value → Option ℕ
cost_in net metric (key.Cost of kind src dst, v) =
    if same_name net of && same_name metric kind then number_at (Some v) else None
cost_in net metric _ = None

-- the distinct ones among costs, the lowest first
abbrev pub distinct : List ℕ → List ℕ
distinct costs = fold (λ set cost. insert_key nat_cmp set cost) [] costs

-- the distinct costs of a metric, the lowest first
abbrev pub distinct_costs : Rows → Name → Name → List ℕ
distinct_costs rows net metric = distinct (filter_map (cost_in net metric) rows)

-- the rank of a cost among distinct costs, from 1: one more than there are lower ones
abbrev pub rank_among : List ℕ → ℕ → ℕ
rank_among costs cost = length (filter (λ other. nat_lt other cost) costs) + 1

-- the ordinal cost of a pair: the rank of its cost among all of its metric
abbrev pub ordinal_cost_of : Rows → Name → Name → Name → Name → Option ℕ
ordinal_cost_of rows net metric src dst =
    option_map (rank_among (distinct_costs rows net metric)) (cost_of rows net metric src dst)

-- the same map with ranks in place of costs
abbrev pub ordinal_face : Name → Name → Rows → Face
ordinal_face net metric rows = record {
  meta = cost_meta net metric (codes "ordinal") rows;
  version = dependent_tags rows net;
  groups = sources_of rows net metric;
  members = destinations_of rows net metric;
  value = λ src dst. number_data (ordinal_cost_of rows net metric src dst);
}

-- the ordinal cost map
abbrev pub ordinal_map : Rows → Name → Name → Data
ordinal_map rows net metric = document cost_shape (ordinal_face net metric rows)
