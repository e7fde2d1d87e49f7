use Rattle.std.proofs.Common.{ℕ, ◌-◌, map, ap, arith}
use Rattle.std.specs.Arc.{arc_value}
use Rattle.tips_graph.specs.Graph.{first_of}
use Rattle.tips_graph.proofs.StepLemmas.{IsStepTo, step_at, step_in}
use Rattle.tips_graph.proofs.graph.Graph.step_to.Goals as goal
use Rattle.tips_graph.proofs.graph.Graph.step_to.Goals.{After-deref-2}
use Rattle.tips_graph.proofs.graph.Graph.step_to.Given.{Over}

-- the step at the place of the number
at_number : (g : Over) (c : After-deref-2 g) → IsStepTo c.args.self.now c.args.number c.deref-2.result.now
at_number g c = step_at c.self.inside.window c.self.inside.last (map arc_value c.self.inside.kept.items) c.args.number
    c.deref-2.result.now c.args.self.now c.self.view_is c.self.invariant
    (omega (arith, c.if-number-eq0.false)) (omega (arith, c.if-number-first.false, c.first-first.ensures))
    (omega (arith, c.if-last-number.false, c.last-last.ensures.number))
    (step_in arc_value c.self.inside.kept.items c.deref.result.now (c.args.number - c.first-first.result)
    (c.args.number - first_of c.args.self.now) c.in_ok-step.step.now c.deref-2.result.now
    c.deref-2.ensures c.in_ok-step.ensures.lookup.1 c.deref.ensures.value
    (ap (λ (n : ℕ). c.args.number - n) c.first-first.ensures))

pub returns-clause-step : goal.returns-clause-step
returns-clause-step g c = (at_number g c).push

pub returns-clause-lists : goal.returns-clause-lists
returns-clause-lists g c = (at_number g c).lists
