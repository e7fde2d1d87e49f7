use Rattle.std.proofs.Common.{ℕ, ◌<◌, ◌≤◌, length, take, slice_index_or}
use Rattle.std.specs.List.{All}
use Rattle.pid_prefix.specs.declared.block.Block.{Block}
use Rattle.pid_prefix.specs.Sweep.{IsSwept}
use Rattle.pid_prefix.proofs.sweep.sweep.Given as goal

-- the blocks so far are swept, and no range begins behind one to come
abbrev pub invariant-loop-block : goal.invariant-loop-block
invariant-loop-block l = record {
  swept : IsSwept (take l.block-index l.blocks) l.ranges.items l.around.items;
  by : (k : ℕ) (d : Block) → l.block-index ≤ k → k < length l.blocks
      → All (λ range. range.first ≤ (slice_index_or l.blocks k d).first) l.ranges.items;
}
