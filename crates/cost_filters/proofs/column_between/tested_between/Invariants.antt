use Rattle.std.proofs.Common.{◌≡◌, ◌++◌, drop}
use Rattle.cost_filters.specs.Between.{tested_between}
use Rattle.cost_filters.proofs.column_between.tested_between.Given as goal

abbrev pub invariant-loop-one : goal.invariant-loop-one
invariant-loop-one l =
    l.tested.items ++ tested_between l.tables l.net (drop l.one-index l.types) l.srcs l.dsts
    ≡ tested_between l.tables l.net l.types l.srcs l.dsts
