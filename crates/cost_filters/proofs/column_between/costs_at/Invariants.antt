use Rattle.std.proofs.Common.{◌≡◌, ◌++◌, drop}
use Rattle.cost_filters.specs.Between.{columns_at}
use Rattle.cost_filters.specs.Pairs.{costs_at}
use Rattle.cost_filters.proofs.column_between.costs_at.Given as goal

-- the costs that are there, and those of the columns that are left, are all
abbrev pub invariant-loop-column : goal.invariant-loop-column
invariant-loop-column l =
    l.costs.items ++ costs_at l.dst (columns_at l.src (drop l.column-index l.columns))
    ≡ costs_at l.dst (columns_at l.src l.columns)
