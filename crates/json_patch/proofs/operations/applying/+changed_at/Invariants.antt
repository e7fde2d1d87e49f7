use Rattle.std.proofs.Common.{◌+◌, ◌*◌, length}
use Rattle.json_patch.proofs.operations.applying.+changed_at.Given as goal

-- the names that are left, and the look at their first
abbrev pub decreases-changed_at : goal.decreases-changed_at
decreases-changed_at l = 2 * length l.path.now

abbrev pub decreases-changed_in : goal.decreases-changed_in
decreases-changed_in l = 2 * length l.path.now + 1
