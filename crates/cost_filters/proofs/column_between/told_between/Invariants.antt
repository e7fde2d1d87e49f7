use Rattle.std.proofs.Common.{◌≡◌, ◌++◌, drop}
use Rattle.cost_filters.specs.Between.{told_between}
use Rattle.cost_filters.proofs.column_between.told_between.Given as goal

abbrev pub invariant-loop-column : goal.invariant-loop-column
invariant-loop-column l =
    l.told.items ++ told_between l.tables l.net (drop l.column-index l.columns) l.srcs l.dsts
    ≡ told_between l.tables l.net l.columns l.srcs l.dsts
