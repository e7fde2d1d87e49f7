use Rattle.std.proofs.Common.{◌∷◌, drop}
use Rattle.alto_rows.specs.Changes.{AreOrdered}
use Rattle.row_chunks.specs.Made.{changes_made}
use Rattle.row_chunks.proofs.changes.are_rising.Given as goal

-- where the last write and what is left rise, all rise
abbrev pub invariant-loop-write : goal.invariant-loop-write
invariant-loop-write l = AreOrdered (changes_made (l.last ∷ drop l.write-index l.rest))
    → AreOrdered (changes_made l.fn.writes)
