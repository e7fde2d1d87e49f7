use Rattle.std.proofs.Common.{◌≡◌, rules, ap, subst, ◌∙◌}
use Rattle.std.proofs.lemmas.Result.{on_ok_weaker}
use Rattle.alto_maps.specs.Shape.{group_object}
use Rattle.alto_maps.specs.Writing.{AddsValue}
use Rattle.net_docs.specs.NetworkMap.{net_face}
use Rattle.net_docs.specs.Prefixes.{group_of}
use Rattle.net_docs.proofs.GroupLemmas.{group_owned}
use Rattle.net_docs.proofs.WritingLemmas.{named_value}
use Rattle.net_docs.proofs.writing.write_group.Goals as goal

pub returns : goal.returns
returns g c =
    let net = c.args.net.now in
    let pid = c.args.pid.now in
    let rows = g.R.RowStore.rows c.args.rows.now in
    let whole : group_of c.deref.result.now ≡ group_object (net_face net rows) pid =
    ap group_of (c.deref.ensures.value ∙ c.in_ok-prefixes.ensures) ∙ group_owned rows net pid in
    on_ok_weaker c.write_families.result
    (λ added. named_value pid (group_object (net_face net rows) pid) c.args.out.now c.key.new.self
    c.write_families.new.out (search rules) (search rules)
    (subst (λ d. AddsValue d c.key.new.self c.write_families.new.out) whole added))
    c.write_families.ensures
