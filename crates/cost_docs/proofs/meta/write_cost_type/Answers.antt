use Rattle.std.proofs.Common.{subst, rules}
use Rattle.std.proofs.lemmas.Result.{on_ok_weaker}
use Rattle.std.specs.Prelude.{codes}
use Rattle.serde_json.specs.Data.{string}
use Rattle.json_tree.specs.Document.{with_member}
use Rattle.alto_maps.specs.Writing.{AddsMember}
use Rattle.net_docs.proofs.WritingLemmas.{named_value, object_of_two}
use Rattle.cost_docs.specs.CostMap.{cost_type}
use Rattle.cost_docs.proofs.meta.write_cost_type.Goals as goal

pub returns : goal.returns
unfolding with_member
returns c =
    let metric = c.args.metric.now in
    let first : AddsMember (codes "cost-metric") (string metric) c.begin_object.new.self c.write_text.new.out =
    subst (λ text. AddsMember (codes "cost-metric") (string text) c.begin_object.new.self c.write_text.new.out)
    c.as_str.ensures c.in_ok-write_text.ensures in
    let second : AddsMember (codes "cost-mode") (string (codes "numerical")) c.write_text.new.out
    c.write_text-2.new.out = c.in_ok-write_text-2.ensures in
    on_ok_weaker c.end_object.result
    (λ closed. named_value (codes "cost-type") (cost_type metric (codes "numerical")) c.args.out.now c.key.new.self
    c.end_object.new.self c.in_ok-key.ensures.ok (search rules)
    (object_of_two (codes "cost-metric") (codes "cost-mode") (string metric) (string (codes "numerical")) c.key.new.self
    c.begin_object.new.self c.write_text.new.out
    c.write_text-2.new.out c.end_object.new.self (search rules) (search rules) first second closed (search rules)))
    c.end_object.ensures.ok
