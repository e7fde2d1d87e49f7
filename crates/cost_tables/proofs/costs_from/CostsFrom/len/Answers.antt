use Rattle.std.proofs.Common.{◌∙◌, ap, option_map, subst, sym}
use Rattle.std.specs.List.Sorted.{IsStrictlySortedBy}
use Rattle.std.specs.Map.{keys_of}
use Rattle.alto_rows.specs.Order.{name_cmp}
use Rattle.cost_tables.specs.Tables.{Costs, costs_if_any}
use Rattle.cost_tables.proofs.PairLemmas.{none_rise}
use Rattle.cost_tables.proofs.costs_from.CostsFrom.len.Goals as goal

pub returns-in-None-clause-order : goal.returns-in-None-clause-order
returns-in-None-clause-order c =
    let none = ap (λ from. costs_if_any (option_map (λ from. from.now.1.costs) from)) c.in-None.is in
    subst (λ (costs : Costs). IsStrictlySortedBy name_cmp (keys_of costs)) (sym none ∙ c.self.view_is) none_rise
