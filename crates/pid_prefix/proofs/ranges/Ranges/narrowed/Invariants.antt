use Rattle.std.proofs.Common.{take}
use Rattle.pid_prefix.proofs.RangesLemmas.{Keeps}
use Rattle.pid_prefix.proofs.ranges.Ranges.narrowed.Given as goal

-- those of the ranges so far that begin below the limit
abbrev pub invariant-loop-range : goal.invariant-loop-range
invariant-loop-range g l =
    Keeps g.N.Number.value g.N.Number.limit l.rows (take l.range-index l.ranges) l.firsts.items l.pids.items
