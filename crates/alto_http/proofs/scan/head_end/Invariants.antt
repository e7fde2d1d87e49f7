use Rattle.std.proofs.Common.{◌≤◌, ◌-◌, length}
use Rattle.alto_http.specs.Head.{HasNoEnd}
use Rattle.alto_http.proofs.scan.head_end.Given as goal

-- the bytes that are passed have no end
abbrev pub invariant-lines : goal.invariant-lines
invariant-lines l = (l.passed ≤ length l.bytes) × HasNoEnd l.passed l.bytes

abbrev pub decreases-lines : goal.decreases-lines
decreases-lines l = length l.bytes - l.passed
