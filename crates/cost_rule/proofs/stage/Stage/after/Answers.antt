-- The whole part has at most sixteen digits.
use Rattle.std.proofs.Common.{subst}
use Rattle.cost_rule.specs.Stages.{IsSound}
use Rattle.cost_rule.proofs.DigitLemmas.{below_power}
use Rattle.cost_rule.proofs.stage.Stage.after.Goals as goal

pub returns-then-byte-eq46-clause-sound : goal.returns-then-byte-eq46-clause-sound
returns-then-byte-eq46-clause-sound c =
    let counted = subst IsSound c.in-Whole.is c.requires in
    below_power 16 c.in-Whole.digits.count c.in-Whole.digits.number counted.few counted.bounded
