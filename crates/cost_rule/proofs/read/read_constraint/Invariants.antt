-- The stage is that after the bytes so far.
use Rattle.std.proofs.Common.{◌≡◌, Some, take}
use Rattle.cost_rule.specs.Stages.{IsSound}
use Rattle.cost_rule.specs.declared.stage.Stage.TheVariants.{Start}
use Rattle.cost_rule.proofs.Reading.{walk}
use Rattle.cost_rule.proofs.read.read_constraint.Given as goal

abbrev pub invariant-loop-place : goal.invariant-loop-place
invariant-loop-place l = record {
  walked : walk Start (take l.place l.text) ≡ Some l.stage;
  sound : IsSound l.stage;
}
