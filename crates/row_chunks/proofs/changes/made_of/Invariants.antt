use Rattle.std.proofs.Common.{◌≡◌, ◌++◌, drop}
use Rattle.row_chunks.specs.Made.{changes_made}
use Rattle.row_chunks.proofs.changes.made_of.Given as goal

-- what is there, and what the writes that are left make, are all
abbrev pub invariant-loop-write : goal.invariant-loop-write
invariant-loop-write l = l.changes.items ++ changes_made (drop l.write-index l.writes) ≡ changes_made l.fn.writes
