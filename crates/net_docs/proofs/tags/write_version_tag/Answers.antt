use Rattle.std.proofs.Common.{◌≡◌, subst, rules, sym, ap, refl}
use Rattle.std.proofs.lemmas.Result.{on_ok_weaker}
use Rattle.std.specs.Prelude.{codes}
use Rattle.serde_json.specs.Data.{Data, object, member, no_members, string}
use Rattle.json_tree.specs.Document.{with_member}
use Rattle.alto_maps.specs.Writing.{AddsMember, AddsValue}
use Rattle.alto_rows.specs.declared.resource.Resource.TheVariants as resource
use Rattle.alto_rows.specs.Versions.{tag_of}
use Rattle.net_docs.specs.NetworkMap.{version_tag}
use Rattle.net_docs.proofs.WritingLemmas.{object_of_two}
use Rattle.net_docs.proofs.tags.write_version_tag.Goals as goal

pub returns : goal.returns
unfolding with_member
returns g c =
    let net = c.args.net.now in
    let rows = g.R.RowStore.rows c.args.rows.now in
    let id : AddsMember (codes "resource-id") (string net) c.begin_object.new.self c.write_text.new.out =
    subst (λ text. AddsMember (codes "resource-id") (string text) c.begin_object.new.self c.write_text.new.out)
    c.as_str.ensures c.in_ok-write_text.ensures in
    let tag : AddsMember (codes "tag") (string (tag_of rows (resource.Net net))) c.write_text.new.out
    c.write_text-2.new.out = search rules in
    on_ok_weaker c.end_object.result
    (λ closed. object_of_two (codes "resource-id") (codes "tag") (string net) (string (tag_of rows (resource.Net net)))
    c.args.out.now c.begin_object.new.self c.write_text.new.out
    c.write_text-2.new.out c.end_object.new.self (search rules) (search rules) id tag closed (search rules))
    c.end_object.ensures.ok
