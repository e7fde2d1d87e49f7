use Rattle.std.proofs.Common.{◌∙◌, ◌<◌, Some, ap, arith, length, slice_get, sym}
use Rattle.std.specs.List.{slice_range}
use Rattle.cost_tables.proofs.BetweenLemmas.{part_there, row_at, row_past, row_within}
use Rattle.cost_tables.proofs.between.CostsBetween.from_source.Goals as goal

pub returns-then-source-self : goal.returns-then-source-self
returns-then-source-self c =
    let self = c.self.inside in
    let past = row_past self.sources self.destinations self.costs.items c.args.source c.if-source-self.true in
    sym (ap (λ all. slice_get all c.args.source) (sym c.self.view_is) ∙ past)

pub returns : goal.returns
returns c =
    let self = c.self.inside in
    let start = c.in_ok-start.start in
    let end = c.in_ok-end.end in
    let inside : c.args.source < self.sources = omega (arith, c.if-source-self.false) in
    let within =
    row_within self.sources self.destinations c.args.source (length self.costs.items) c.self.invariant inside in
    part_there _ _ start end c.get.result c.get.ensures.lookup (omega arith)
    (omega (arith, within, ap length c.deref.ensures.value))
    ∙ (ap (λ all. Some (slice_range all start end)) c.deref.ensures.value
    ∙ (sym (row_at self.sources self.destinations self.costs.items c.args.source start end inside (omega arith)
    (omega arith))
    ∙ ap (λ all. slice_get all c.args.source) c.self.view_is))
