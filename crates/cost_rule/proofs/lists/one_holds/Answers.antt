-- Where the loop ends, no list holds.
use Rattle.std.proofs.Common.{arith}
use Rattle.std.proofs.lemmas.Bool.{false≢true}
use Rattle.cost_rule.specs.Meaning.{AllHold}
use Rattle.cost_rule.proofs.ListLemmas.{Any-map-none}
use Rattle.cost_rule.proofs.lists.one_holds.Goals as goal

pub returns : goal.returns
returns c = (
  (λ e. absurd (false≢true e)),
  (λ any. absurd (Any-map-none (AllHold c.args.costs.now) (λ constraints. constraints.items) c.args.alternatives.now
      (λ k other inside. c.loop-constraints.invariant k other (omega arith)) any)),
)
