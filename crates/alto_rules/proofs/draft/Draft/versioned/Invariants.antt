-- The draft so far, with the version rows that are left, is the whole.
use Rattle.std.proofs.Common.{◌≡◌}
use Rattle.std.specs.List.{AllByRecursion}
use Rattle.std.specs.Prelude.{true}
use Rattle.alto_rules.specs.Draft.{gives_none, wrote}
use Rattle.alto_rules.proofs.draft.Draft.versioned.Given as goal

abbrev pub invariant-loop-version : goal.invariant-loop-version
invariant-loop-version g l =
    AllByRecursion (λ write. gives_none write.key ≡ true) l.version-iterator.rest.items
    × (wrote l.draft l.version-iterator.rest.items ≡ wrote l.initial.draft l.initial.version-iterator.rest.items)
