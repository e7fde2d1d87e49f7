use Rattle.std.proofs.Common.{◌≡◌, ◌≤◌, ◌-◌, length, drop}
use Rattle.alto_http.specs.Head.{HasNoEnd}
use Rattle.alto_http.specs.Intake.{ReadsAhead}
use Rattle.alto_http.proofs.receive.find_end.Given as goal

-- the first bytes of the head have no end, and reading has only added bytes
abbrev pub invariant-pieces : goal.invariant-pieces
invariant-pieces g l =
    (l.start ≤ length l.intake)
    × (l.looked ≤ length (drop l.start l.intake))
    × HasNoEnd l.looked (drop l.start l.intake)
    × ReadsAhead l.initial.intake (g.L.Link.left l.initial.link) l.intake (g.L.Link.left l.link)
    × (g.L.Link.failed_reads l.link ≡ g.L.Link.failed_reads l.initial.link)
    × (g.L.Link.out l.link ≡ g.L.Link.out l.initial.link)
    × (g.L.Link.failed_writes l.link ≡ g.L.Link.failed_writes l.initial.link)

abbrev pub decreases-pieces : goal.decreases-pieces
decreases-pieces g l = 16384 - length l.intake
