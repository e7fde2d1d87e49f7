use Rattle.std.proofs.Common.{rules}
use Rattle.std.proofs.lemmas.Result.{on_ok_weaker}
use Rattle.std.specs.Prelude.{codes}
use Rattle.json_tree.specs.Document.{with_member}
use Rattle.net_docs.proofs.WritingLemmas.{object_of_two}
use Rattle.net_docs.specs.NetworkMap.{dependent_tags}
use Rattle.cost_docs.specs.CostMap.{cost_type}
use Rattle.cost_docs.proofs.meta.write_meta.Goals as goal

pub returns : goal.returns
unfolding with_member
returns g c =
    let net = c.args.net.now in
    let metric = c.args.metric.now in
    let rows = g.R.RowStore.rows c.args.rows.now in
    on_ok_weaker c.end_object.result
    (λ closed. object_of_two (codes "cost-type") (codes "dependent-vtags") (cost_type metric (codes "numerical"))
    (dependent_tags rows net) c.args.out.now c.begin_object.new.self
    c.write_cost_type.new.out c.write_dependent_tags.new.out c.end_object.new.self (search rules) (search rules)
    c.in_ok-write_cost_type.ensures c.in_ok-write_dependent_tags.ensures closed (search rules))
    c.end_object.ensures.ok
