-- The writes of all edits are the draft's before those of the edits that are left, and a cost that they put last names
-- what is declared.
use Rattle.std.proofs.Common.{◌≡◌, ◌+◌, drop}
use Rattle.alto_rows.specs.Rows.{after}
use Rattle.alto_edits.specs.Compiled.{before, edits_writes}
use Rattle.alto_rules.specs.Origin.{LastCostIsDeclared}
use Rattle.alto_rules.proofs.compiler.drafted.Given as goal

abbrev pub invariant-loop-index : goal.invariant-loop-index
invariant-loop-index g l =
    (l.draft.rows ≡ g.R.RowStore.rows l.rows)
    × (edits_writes (g.R.RowStore.rows l.rows) 1 l.edits
    ≡ before l.draft.writes
    (edits_writes (after (g.R.RowStore.rows l.rows) l.draft.writes) (l.index + 1) (drop l.index l.edits)))
    × LastCostIsDeclared l.draft
