use Rattle.std.proofs.Common.{◌≡◌, ap, length, rules, sym, ◌∙◌}
use Rattle.std.specs.Arc.{arc_value}
use Rattle.cost_tables.proofs.PairLemmas.{length-zip}
use Rattle.cost_tables.proofs.from_source.FromSource.is_empty.Goals as goal

pub returns : goal.returns
returns c =
    let names = (arc_value c.self.inside.list).names in
    let costs = c.self.inside.costs in
    let count : length c.args.self.now.1.costs ≡ length costs =
    ap (λ from. length from.1.costs) (sym c.self.view_is) ∙ length-zip names costs c.self.invariant in
    rw count (search rules)
