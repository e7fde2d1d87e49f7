use Rattle.std.proofs.Common.{◌+◌, ◌-◌, ◌≤◌, length}
use Rattle.tips_graph.proofs.MergeLemmas.{IsMergedTo}
use Rattle.tips_graph.proofs.keys.merged.Given as goal

abbrev pub invariant-loop-i : goal.invariant-loop-i
invariant-loop-i l = record {
  older_within : l.i ≤ length l.older;
  newer_within : l.j ≤ length l.newer;
  made : IsMergedTo l.older l.newer l.keys.items l.i l.j;
}

abbrev pub decreases-loop-i : goal.decreases-loop-i
decreases-loop-i l = (length l.older - l.i) + (length l.newer - l.j)
