-- None so far isn't declared.
use Rattle.std.proofs.Common.{◌≡◌, drop}
use Rattle.std.specs.List.{list_any}
use Rattle.alto_rows.specs.declared.key.Key.TheVariants as keys
use Rattle.alto_edits.specs.Rules.{lacks}
use Rattle.alto_rules.specs.Draft.{drafted_rows}
use Rattle.alto_rules.proofs.draft.Draft.lacks_anes.Given as goal

abbrev pub invariant-loop-ane : goal.invariant-loop-ane
invariant-loop-ane g l =
    list_any (λ ane. lacks (drafted_rows l.self) (keys.Ane l.net ane)) (drop l.ane-index l.anes)
    ≡ list_any (λ ane. lacks (drafted_rows l.self) (keys.Ane l.net ane)) l.anes
