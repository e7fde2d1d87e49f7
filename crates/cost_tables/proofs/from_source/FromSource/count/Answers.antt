use Rattle.std.proofs.Common.{◌≡◌, ◌∙◌, ap, length, subst, sym}
use Rattle.std.specs.Arc.{arc_value}
use Rattle.std.specs.List.Sorted.{IsStrictlySortedBy}
use Rattle.std.specs.Map.{keys_of}
use Rattle.alto_rows.specs.Order.{name_cmp}
use Rattle.cost_tables.specs.Lists.{Listed}
use Rattle.cost_tables.specs.Tables.{Name}
use Rattle.cost_tables.proofs.PairLemmas.{keys_of-zip, length-zip}
use Rattle.cost_tables.proofs.from_source.FromSource.count.Goals as goal

pub returns-clause-costs : goal.returns-clause-costs
returns-clause-costs c =
    let names = (arc_value c.self.inside.list).names in
    let costs = c.self.inside.costs in
    let even : length costs ≡ length names = c.self.invariant in
    ap length (c.names.ensures.names ∙ ap (λ list. list.names) c.deref.ensures)
    ∙ (sym (length-zip names costs even ∙ even) ∙ ap (λ (from : Name × Listed). length from.1.costs) c.self.view_is)

pub returns-clause-order : goal.returns-clause-order
returns-clause-order c =
    let names = (arc_value c.self.inside.list).names in
    let costs = c.self.inside.costs in
    let even : length costs ≡ length names = c.self.invariant in
    subst (IsStrictlySortedBy name_cmp)
    (ap (λ list. list.names) c.deref.ensures
    ∙ (sym (keys_of-zip names costs even) ∙ ap (λ (from : Name × Listed). keys_of from.1.costs) c.self.view_is))
    c.names.ensures.order
