use Rattle.std.proofs.Common.{◌≡◌, take}
use Rattle.alto_versions.proofs.resources.copies_of.Given as goal

abbrev pub invariant-loop-of : goal.invariant-loop-of
invariant-loop-of l = l.copies.items ≡ take l.of-index l.resources
