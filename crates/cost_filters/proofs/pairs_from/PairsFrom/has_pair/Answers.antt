use Rattle.std.proofs.Common.{◌∙◌, ap, sym}
use Rattle.std.specs.Prelude.{is_some}
use Rattle.std.specs.List.{list_any}
use Rattle.cost_filters.specs.PairsFrom.{found_in}
use Rattle.cost_filters.proofs.BetweenLemmas.{one_of}
use Rattle.cost_filters.proofs.pairs_from.PairsFrom.has_pair.Goals as goal

pub returns-in-Costs : goal.returns-in-Costs
returns-in-Costs c =
    c.has_cost.ensures
    ∙ (one_of c.in-Costs.costs.now
    ∙ ap (list_any (λ pair. is_some pair)) (ap found_in (sym c.in-Costs.is) ∙ c.self.view_is))
