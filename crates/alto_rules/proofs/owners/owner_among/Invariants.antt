-- None so far is the prefix.
use Rattle.std.proofs.Common.{◌≡◌}
use Rattle.alto_rules.specs.Owners.{owner_among}
use Rattle.alto_rules.proofs.owners.owner_among.Given as goal

abbrev pub invariant-loop-other : goal.invariant-loop-other
invariant-loop-other l = owner_among l.other-iterator.rest.items l.prefix ≡ owner_among l.fn.told.items l.prefix
