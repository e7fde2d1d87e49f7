use Rattle.std.proofs.Common.{◌≡◌, ◌≤◌, ◌-◌, length, take, slice_range}
use Rattle.alto_http.specs.Link.{followed_by}
use Rattle.alto_http.proofs.receive.read_full.Given as goal

-- the bytes from `start` to `at` came from the link, and those before stay
abbrev pub invariant-pieces : goal.invariant-pieces
invariant-pieces g l =
    (l.start ≤ l.at)
    × (l.at ≤ length l.into)
    × (take l.start l.into ≡ take l.start l.initial.into)
    × (g.L.Link.left l.initial.link ≡ followed_by (slice_range l.into l.start l.at) (g.L.Link.left l.link))
    × (g.L.Link.failed_reads l.link ≡ g.L.Link.failed_reads l.initial.link)
    × (g.L.Link.out l.link ≡ g.L.Link.out l.initial.link)
    × (g.L.Link.failed_writes l.link ≡ g.L.Link.failed_writes l.initial.link)

abbrev pub decreases-pieces : goal.decreases-pieces
decreases-pieces g l = length l.into - l.at
