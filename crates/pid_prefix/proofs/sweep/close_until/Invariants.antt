use Rattle.std.proofs.Common.{◌≤◌, List, vec_len}
use Rattle.std.specs.List.{All}
use Rattle.pid_prefix.specs.declared.block.Block.{Block}
use Rattle.pid_prefix.specs.Sweep.{IsSwept}
use Rattle.pid_prefix.proofs.sweep.close_until.Given as goal

-- what was swept still is, and no range begins behind the number
abbrev pub invariant-loop-last : goal.invariant-loop-last
invariant-loop-last l = record {
  swept : (blocks : List Block) → IsSwept blocks l.fn.ranges.items l.fn.around.items
      → IsSwept blocks l.ranges.items l.around.items;
  by : All (λ range. range.first ≤ l.number) l.fn.ranges.items → All (λ range. range.first ≤ l.number) l.ranges.items;
}

abbrev pub decreases-loop-last : goal.decreases-loop-last
decreases-loop-last l = vec_len l.around
