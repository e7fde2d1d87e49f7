-- The version rows so far are those of the declared ones among the resources so far.
use Rattle.std.proofs.Common.{◌≡◌}
use Rattle.std.specs.Prelude.{filter, map}
use Rattle.alto_rows.specs.Versions.{is_declared}
use Rattle.alto_edits.specs.Versions.{next_version}
use Rattle.alto_rules.specs.Draft.{drafted_rows}
use Rattle.alto_rules.proofs.draft.Draft.versions.Given as goal

abbrev pub invariant-loop-of : goal.invariant-loop-of
invariant-loop-of g l = l.versions.items
    ≡ map (next_version l.self.rows) (filter (is_declared (drafted_rows l.self)) l.yielded)
