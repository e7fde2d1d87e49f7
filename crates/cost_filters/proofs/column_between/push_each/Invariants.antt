use Rattle.std.proofs.Common.{◌≡◌, ◌++◌, drop, map}
use Rattle.std.specs.Prelude.{false}
use Rattle.serde_json.specs.View.{items_of}
use Rattle.serde_json.specs.Written.{items_text}
use Rattle.cost_docs.specs.CostMap.{number_data}
use Rattle.cost_filters.specs.Between.{columns_at}
use Rattle.cost_filters.specs.Pairs.{costs_at}
use Rattle.cost_filters.proofs.column_between.push_each.Given as goal

-- what is there, and the costs of the columns that are left, make all costs
abbrev pub invariant-loop-column : goal.invariant-loop-column
invariant-loop-column l =
    l.out ++ items_text l.later
    (items_of (map number_data (costs_at l.dst (columns_at l.src (drop l.column-index l.columns)))))
    ≡ l.initial.out ++ items_text false
    (items_of (map number_data (costs_at l.dst (columns_at l.src l.columns))))
