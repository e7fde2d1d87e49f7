use Rattle.std.proofs.Common.{◌≡◌, ◌++◌, map, take}
use Rattle.std.specs.Arc.{arc_value}
use Rattle.tips_graph.proofs.graph.append_shared.Given as goal

abbrev pub invariant-loop-step : goal.invariant-loop-step
invariant-loop-step g l = map arc_value l.kept.items ≡ map arc_value l.initial.kept.items
    ++ map arc_value (take l.step-index l.steps)
