use Rattle.std.proofs.Common.{ap, sym, ◌∙◌, option_map}
use Rattle.serde_json.specs.Data.{number, unsigned}
use Rattle.cost_docs.proofs.StandsLemmas.{member_is}
use Rattle.cost_docs.proofs.source.CostMapMapSource.value.Goals as goal

pub returns : goal.returns
returns g c =
    let rows = g.R.RowStore.rows c.self.inside.rows.now in
    rw (← c.self.view_is)
    (c.number_of.ensures
    ∙ (ap (option_map (λ n. number (unsigned n))) c.in_ok-cost.ensures
    ∙ sym (member_is c.self.inside.net.now c.self.inside.metric.now rows c.args.name.now c.args.member.now
    c.self.invariant)))
