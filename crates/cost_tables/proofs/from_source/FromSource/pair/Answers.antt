use Rattle.std.proofs.Common.{◌≡◌, ◌∙◌, None, Some, ap, length, option_map, refl, slice_get, sym}
use Rattle.std.specs.Arc.{arc_value}
use Rattle.cost_tables.specs.Lists.{Listed, Numbered}
use Rattle.cost_tables.specs.Tables.{Name}
use Rattle.cost_tables.proofs.PairLemmas.{both_of-none, pair_at}
use Rattle.cost_tables.proofs.from_source.FromSource.pair.Goals as goal

pub returns-in_err-destination : goal.returns-in_err-destination
returns-in_err-destination c =
    let names = (arc_value c.self.inside.list).names in
    let costs = c.self.inside.costs in
    let place = c.args.place in
    let even : length costs ≡ length names = c.self.invariant in
    let none : None ≡ slice_get names place =
    sym (ap (option_map (λ name. name.now)) c.in_err-destination.was)
    ∙ (c.name.ensures ∙ ap (λ (list : Numbered). slice_get list.names place) c.deref.ensures) in
    ap (option_map (λ pair. (pair.0.now, pair.1))) c.from_residual.ensures
    ∙ (pair_at names costs place None (slice_get costs place) even none refl
    ∙ ap (λ (from : Name × Listed). slice_get from.1.costs place) c.self.view_is)

pub returns-in_err-cost : goal.returns-in_err-cost
returns-in_err-cost c =
    let names = (arc_value c.self.inside.list).names in
    let costs = c.self.inside.costs in
    let place = c.args.place in
    let even : length costs ≡ length names = c.self.invariant in
    let none : None ≡ slice_get costs place = sym c.in_err-cost.was ∙ c.get.ensures in
    ap (option_map (λ pair. (pair.0.now, pair.1))) c.from_residual-in_err-cost.ensures
    ∙ (sym (both_of-none (slice_get names place))
    ∙ (pair_at names costs place (slice_get names place) None even refl none
    ∙ ap (λ (from : Name × Listed). slice_get from.1.costs place) c.self.view_is))

pub returns : goal.returns
returns c =
    let names = (arc_value c.self.inside.list).names in
    let costs = c.self.inside.costs in
    let place = c.args.place in
    let even : length costs ≡ length names = c.self.invariant in
    let there : Some c.in_ok-destination.destination.now ≡ slice_get names place =
    sym (ap (option_map (λ name. name.now)) c.in_ok-destination.was)
    ∙ (c.name.ensures ∙ ap (λ (list : Numbered). slice_get list.names place) c.deref.ensures) in
    let beside : Some c.in_ok-cost.cost ≡ slice_get costs place = sym c.in_ok-cost.was ∙ c.get.ensures in
    pair_at names costs place _ _ even there beside
    ∙ ap (λ (from : Name × Listed). slice_get from.1.costs place) c.self.view_is
