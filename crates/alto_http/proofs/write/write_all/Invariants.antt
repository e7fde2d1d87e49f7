use Rattle.std.proofs.Common.{length, ◌-◌, ◌≡◌, ◌≤◌, take}
use Rattle.alto_http.specs.Link.{extended}
use Rattle.alto_http.proofs.write.write_all.Given as goal

-- the bytes before `at` are out, and nothing else has changed
abbrev pub invariant-loop-at : goal.invariant-loop-at
invariant-loop-at g l =
    (l.at ≤ length l.bytes)
    × (g.L.Link.out l.link ≡ extended (g.L.Link.out l.initial.link) (take l.at l.bytes))
    × (g.L.Link.failed_writes l.link ≡ g.L.Link.failed_writes l.initial.link)
    × (g.L.Link.left l.link ≡ g.L.Link.left l.initial.link)
    × (g.L.Link.failed_reads l.link ≡ g.L.Link.failed_reads l.initial.link)

abbrev pub decreases-loop-at : goal.decreases-loop-at
decreases-loop-at g l = length l.bytes - l.at
