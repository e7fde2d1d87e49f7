-- The meta has one member.
use Rattle.std.proofs.Common.{subst, rules}
use Rattle.std.proofs.lemmas.Result.{on_ok_weaker}
use Rattle.std.specs.Prelude.{codes}
use Rattle.json_tree.specs.Document.{with_member}
use Rattle.alto_maps.specs.Writing.{AddsMember}
use Rattle.alto_maps.proofs.WritingLemmas.{member_more, whole_object}
use Rattle.net_docs.proofs.WritingLemmas.{named_value}
use Rattle.serde_json.specs.Data.{no_members}
use Rattle.cost_filters.specs.Filter.{types_data, types_name}
use Rattle.endpoint_costs.specs.Ask.{EndAskData}
use Rattle.endpoint_costs.specs.Costs.{endpoint_meta}
use Rattle.endpoint_costs.proofs.costs.write_meta.Goals as goal

pub returns : goal.returns
unfolding with_member
returns c =
    let ask = c.args.ask.now in
    let begun = c.begin_object.new.self in
    let written = c.write_types.new.out in
    let types : AddsMember (types_name ask.multi) (types_data ask.multi ask.types) begun written =
    subst (λ (asked : EndAskData). AddsMember (types_name asked.multi) (types_data asked.multi asked.types) begun
    written) c.ask.view_is
    (subst (λ listed. AddsMember (types_name c.ask.inside.multi) (types_data c.ask.inside.multi listed) begun written)
    c.deref.ensures.value c.in_ok-write_types.ensures) in
    on_ok_weaker c.end_object.result
    (λ closed. named_value (codes "meta") (endpoint_meta ask) c.args.out.now c.key.new.self c.end_object.new.self
    (search rules) (search rules)
    (whole_object _ c.key.new.self begun written c.end_object.new.self (search rules) (search rules)
    (record {
      tokens = member_more (types_name ask.multi) (types_data ask.multi ask.types) no_members begun written types;
      before = types.before;
    })
    closed (search rules)))
    c.end_object.ensures.ok
