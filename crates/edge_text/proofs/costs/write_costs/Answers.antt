use Rattle.std.proofs.Common.{rules}
use Rattle.std.proofs.lemmas.Result.{on_ok_weaker}
use Rattle.alto_maps.proofs.WritingLemmas.{whole_object}
use Rattle.cost_docs.specs.Writing.{members_from}
use Rattle.edge_text.proofs.costs.write_costs.Goals as goal

pub returns : goal.returns
returns g c =
    let members = members_from (g.R.RowStore.rows c.args.rows.now) c.args.net.now c.args.metric.now c.args.source.now in
    on_ok_weaker c.end_object.result
    (λ closed.
    whole_object members c.args.out.now c.begin_object.new.self c.write_members.new.out c.end_object.new.self
    (search rules) (search rules)
    c.in_ok-write_members.ensures closed (search rules))
    c.end_object.ensures.ok
