use Rattle.std.proofs.Common.{◌≡◌, ◌++◌, drop}
use Rattle.row_chunks.proofs.LastLemmas.{last_changes}
use Rattle.row_chunks.proofs.changes.last_of_each.Given as goal

-- what is there, and the last of each key among those that are left, are all
abbrev pub invariant-loop-at : goal.invariant-loop-at
invariant-loop-at l = l.last.items ++ last_changes (drop l.at l.changes) ≡ last_changes l.fn.changes
