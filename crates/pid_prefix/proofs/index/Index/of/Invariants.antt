use Rattle.std.proofs.Common.{◌≡◌, length}
use Rattle.std.specs.List.Sorted.{IsNonDecreasingBy}
use Rattle.pid_prefix.specs.Index.{IsIndexOf}
use Rattle.pid_prefix.proofs.index.Index.of.Given as goal

-- the counts of the buckets so far
abbrev pub invariant-loop-bucket : goal.invariant-loop-bucket
invariant-loop-bucket g l = (length l.below.items ≡ l.bucket)
    × (IsNonDecreasingBy g.N.Number.value l.numbers → IsIndexOf g.N.Number.value l.numbers
    (record { shift = l.shift; least = l.least; below = l.below.items }))
