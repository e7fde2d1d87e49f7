-- What is there, with what is named by the rows that are left, makes the whole. Each turn takes one of them.
use Rattle.std.proofs.Common.{◌≡◌, length}
use Rattle.std.specs.Prelude.{◌++◌, filter}
use Rattle.std.specs.Map.{keys_of}
use Rattle.alto_rules.specs.Withdrawal.{names_key}
use Rattle.alto_rules.proofs.withdrawal.named_left.Given as goal

abbrev pub invariant-loop-row : goal.invariant-loop-row
invariant-loop-row g l =
    l.keys.items ++ filter (names_key l.declared) (keys_of l.walk)
    ≡ filter (names_key l.declared) (keys_of l.initial.walk)

abbrev pub decreases-loop-row : goal.decreases-loop-row
decreases-loop-row g l = length l.walk
