use Rattle.std.proofs.Common.{◌≡◌, map, take}
use Rattle.doc_pieces.specs.Renewed.{change_of}
use Rattle.doc_pieces.proofs.renewing.with_written.Given as goal

-- the changes so far are those of the names so far
abbrev pub invariant-loop-name : goal.invariant-loop-name
invariant-loop-name g l = l.changes.items ≡ map (change_of (g.G.Grouped.map l.groups)) (take l.name-index l.names)
