use Rattle.std.proofs.Common.{◌≡◌, ◌≤◌, ◌-◌, length, take}
use Rattle.alto_http.specs.Head.{breaks_before}
use Rattle.alto_http.specs.Intake.{ReadsAhead}
use Rattle.alto_http.proofs.receive.find_start.Given as goal

-- the bytes before `passed` are line breaks, and reading has only added bytes
abbrev pub invariant-pieces : goal.invariant-pieces
invariant-pieces g l =
    (l.passed ≤ length l.intake)
    × (breaks_before (take l.passed l.intake) ≡ l.passed)
    × ReadsAhead l.initial.intake (g.L.Link.left l.initial.link) l.intake (g.L.Link.left l.link)
    × (g.L.Link.failed_reads l.link ≡ g.L.Link.failed_reads l.initial.link)
    × (g.L.Link.out l.link ≡ g.L.Link.out l.initial.link)
    × (g.L.Link.failed_writes l.link ≡ g.L.Link.failed_writes l.initial.link)

abbrev pub decreases-pieces : goal.decreases-pieces
decreases-pieces g l = 16384 - length l.intake
