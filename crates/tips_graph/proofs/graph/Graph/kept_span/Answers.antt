use Rattle.std.proofs.Common.{◌∙◌, sym, arith, List, Bor}
use Rattle.alto_rows.specs.declared.key.Key.{Key}
use Rattle.tips_graph.proofs.SpanLemmas.{kept_span_at, no_gap, single_at}
use Rattle.tips_graph.proofs.graph.Graph.kept_span.Goals as goal

pub returns-in_err-step_to-in-Here-clause-single : goal.returns-in_err-step_to-in-Here-clause-single
returns-in_err-step_to-in-Here-clause-single g c = λ _.
    absurd (no_gap c.args.self.now c.args.i c.args.j c.in_err-step_to-in-Here.ensures.sound.numbered
    (omega (arith, c.if-i-gt0.true)) (sym c.status.ensures ∙ c.in-Here.is) c.in_err-step_to-in-Here.ensures.step)

pub returns-in_ok-step_to-in-Here-clause-keys : goal.returns-in_ok-step_to-in-Here-clause-keys
returns-in_ok-step_to-in-Here-clause-keys g c =
    kept_span_at (λ (keys : Bor (List Key)). keys.now) c.list.result c.args.self.now c.args.i c.args.j
    c.in_ok-step_to-in-Here.field-0.now c.in_ok-step_to-in-Here.ensures.sound.numbered (omega (arith, c.if-i-gt0.true))
    (sym c.status.ensures ∙ c.in-Here.is) c.in_ok-step_to-in-Here.ensures.lists c.list.ensures

pub returns-in_ok-step_to-in-Here-clause-single : goal.returns-in_ok-step_to-in-Here-clause-single
returns-in_ok-step_to-in-Here-clause-single g c = λ single.
    c.list.ensures
    ∙ single_at c.args.self.now c.args.i c.args.j c.in_ok-step_to-in-Here.field-0.now
    c.in_ok-step_to-in-Here.ensures.sound.numbered (omega (arith, c.if-i-gt0.true))
    (sym c.status.ensures ∙ c.in-Here.is) c.in_ok-step_to-in-Here.ensures.lists single
