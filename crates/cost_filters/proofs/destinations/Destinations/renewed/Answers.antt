-- The same names have the same texts.
use Rattle.std.proofs.Common.{◌∙◌, ap, map, sym}
use Rattle.cost_tables.proofs.PairLemmas.{one_list}
use Rattle.cost_filters.specs.Text.{member_start}
use Rattle.cost_filters.proofs.destinations.Destinations.renewed.Goals as goal

pub invariant_of-result : goal.invariant_of-result
invariant_of-result c =
    c.self.invariant
    ∙ ap (map member_start)
    (one_list c.self.inside.names.items c.args.names.items (sym c.eq.ensures ∙ c.if-eq.true))
