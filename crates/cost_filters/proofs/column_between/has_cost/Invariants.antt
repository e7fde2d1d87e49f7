use Rattle.std.proofs.Common.{◌≡◌, drop}
use Rattle.cost_filters.specs.Between.{columns_at}
use Rattle.cost_filters.specs.Pairs.{costs_at, has_cost}
use Rattle.cost_filters.proofs.column_between.has_cost.Given as goal

-- whether one of the columns that are left has a cost tells it of all
abbrev pub invariant-loop-column : goal.invariant-loop-column
invariant-loop-column l =
    has_cost (costs_at l.dst (columns_at l.src (drop l.column-index l.columns)))
    ≡ has_cost (costs_at l.dst (columns_at l.src l.columns))
