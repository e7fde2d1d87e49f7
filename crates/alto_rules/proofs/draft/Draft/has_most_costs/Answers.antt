-- There is room for a cost where all rows are fewer.
use Rattle.std.proofs.Common.{arith, tests}
use Rattle.alto_rows.specs.declared.span.Span.TheVariants as span
use Rattle.alto_rules.specs.Draft.{drafted_rows}
use Rattle.alto_rules.proofs.CheckLemmas.{few_rows}
use Rattle.alto_rules.proofs.draft.Draft.has_most_costs.Goals as goal

pub returns-then-total-lt-MOST_COSTS : goal.returns-then-total-lt-MOST_COSTS
returns-then-total-lt-MOST_COSTS g c = λ _ _.
    few_rows (drafted_rows c.args.self.now) (span.CostsIn c.args.net.now c.args.metric.now) 262144
    (grind (arith, tests, c.total.ensures, c.if-total-lt-MOST_COSTS.true))
