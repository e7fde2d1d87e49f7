use Rattle.std.proofs.Common.{◌≡◌, ◌++◌, length}
use Rattle.doc_pieces.specs.Parts.{whole}
use Rattle.alto_serve.specs.Writing.{IsOutTo}
use Rattle.alto_serve.proofs.serve.write_parts.Given as goal

-- what is gathered and the parts that are left are the rest of all bytes; no write failed, and nothing was read
abbrev pub invariant-loop-part : goal.invariant-loop-part
invariant-loop-part g l =
    IsOutTo (g.L.Link.out l.fn.link) (l.fn.front.items ++ l.fn.rest) (g.L.Link.out l.link)
    (l.gathered.items ++ whole l.parts)
    × (g.L.Link.failed_writes l.link ≡ g.L.Link.failed_writes l.fn.link)
    × (g.L.Link.left l.link ≡ g.L.Link.left l.fn.link)
    × (g.L.Link.failed_reads l.link ≡ g.L.Link.failed_reads l.fn.link)

-- each step takes a part
abbrev pub decreases-loop-part : goal.decreases-loop-part
decreases-loop-part g l = length l.parts
