use Rattle.std.proofs.Common.{◌≡◌, ◌++◌, drop}
use Rattle.cost_filters.proofs.constraints.copies.Given as goal

-- the copies so far and the types that are left are all
abbrev pub invariant-loop-one : goal.invariant-loop-one
invariant-loop-one l = l.copies.items ++ drop l.one-index l.types ≡ l.types
