use Rattle.std.proofs.Common.{◌-◌, ◌*◌, ◌+◌, ◌^◌, ◌≤◌, length}
use Rattle.pid_prefix.specs.Index.{EndsIn}
use Rattle.pid_prefix.proofs.ranges.count_begun.Given as goal

-- those by the number end in the part that is left, and each step halved it
abbrev pub invariant-loop-left : goal.invariant-loop-left
invariant-loop-left g l = record {
  part : EndsIn g.N.Number.value l.firsts l.sought l.begun l.left;
  counted : l.fn.steps ≤ l.steps;
  halved : 2 ^ (l.steps - l.fn.steps) * l.left ≤ length l.firsts;
  cost : 2 ^ (l.steps - l.fn.steps) ≤ 2 * length l.firsts + 1;
}

abbrev pub decreases-loop-left : goal.decreases-loop-left
decreases-loop-left g l = l.left
