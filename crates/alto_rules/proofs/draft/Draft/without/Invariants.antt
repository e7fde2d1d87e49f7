-- The draft so far, with the deletions of the keys that are left, is the whole.
use Rattle.std.proofs.Common.{◌≡◌}
use Rattle.std.specs.Prelude.{map}
use Rattle.alto_edits.specs.Writes.{deleting}
use Rattle.alto_rules.specs.Draft.{wrote}
use Rattle.alto_rules.proofs.draft.Draft.without.Given as goal

abbrev pub invariant-loop-key : goal.invariant-loop-key
invariant-loop-key g l = l.draft ≡ wrote l.initial.draft (map deleting l.yielded)
