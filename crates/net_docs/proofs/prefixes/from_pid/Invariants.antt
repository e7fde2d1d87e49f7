use Rattle.std.proofs.Common.{◌≡◌, length}
use Rattle.net_docs.specs.Prefixes.{from_pid}
use Rattle.net_docs.proofs.prefixes.from_pid.Given as goal

-- the prefixes so far are of earlier PIDs
abbrev pub invariant-loop-first : goal.invariant-loop-first
invariant-loop-first l = from_pid l.pid l.prefixes ≡ from_pid l.pid l.left

abbrev pub decreases-loop-first : goal.decreases-loop-first
decreases-loop-first l = length l.left
