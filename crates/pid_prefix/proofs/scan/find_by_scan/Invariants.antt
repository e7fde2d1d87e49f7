use Rattle.std.proofs.Common.{◌≡◌, take, option_copied}
use Rattle.pid_prefix.specs.Longest.{holding}
use Rattle.pid_prefix.proofs.LongestLemmas.{longest}
use Rattle.pid_prefix.proofs.scan.find_by_scan.Given as goal

-- the longest of the rows so far that hold the address
abbrev pub invariant-loop-row : goal.invariant-loop-row
invariant-loop-row l = option_copied l.longest ≡ longest (holding (take l.row-index l.prefixes) l.addr)
