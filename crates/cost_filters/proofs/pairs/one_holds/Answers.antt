use Rattle.std.proofs.Common.{map}
use Rattle.cost_filters.proofs.HoldsLemmas.{decides}
use Rattle.cost_filters.proofs.pairs.one_holds.Goals as goal

pub returns : goal.returns
returns c = decides c.args.costs.now (map (λ constraints. constraints.items) c.args.alternatives.now) c.one_holds.result
    c.one_holds.ensures
