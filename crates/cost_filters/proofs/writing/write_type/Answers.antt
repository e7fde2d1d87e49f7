use Rattle.std.proofs.Common.{subst, rules}
use Rattle.std.proofs.lemmas.Result.{on_ok_weaker}
use Rattle.std.specs.Prelude.{codes}
use Rattle.serde_json.specs.Data.{string}
use Rattle.json_tree.specs.Document.{with_member}
use Rattle.alto_maps.specs.Writing.{AddsMember}
use Rattle.net_docs.proofs.WritingLemmas.{object_of_two}
use Rattle.cost_filters.specs.Filter.{mode_of}
use Rattle.cost_filters.proofs.writing.write_type.Goals as goal

pub returns : goal.returns
unfolding with_member
returns c =
    let one = c.args.one.now in
    let first : AddsMember (codes "cost-metric") (string one.metric) c.begin_object.new.self c.write_text.new.out =
    subst (λ text. AddsMember (codes "cost-metric") (string text) c.begin_object.new.self c.write_text.new.out)
    c.as_str.ensures c.in_ok-write_text.ensures in
    let second : AddsMember (codes "cost-mode") (string (mode_of one)) c.write_text.new.out c.write_text-2.new.out =
    subst (λ text. AddsMember (codes "cost-mode") (string text) c.write_text.new.out c.write_text-2.new.out)
    c.mode_of.ensures c.in_ok-write_text-2.ensures in
    on_ok_weaker c.end_object.result
    (λ closed. object_of_two (codes "cost-metric") (codes "cost-mode") (string one.metric) (string (mode_of one))
    c.args.out.now c.begin_object.new.self c.write_text.new.out
    c.write_text-2.new.out c.end_object.new.self (search rules) (search rules) first second closed (search rules))
    c.end_object.ensures.ok
