use Rattle.std.proofs.Common.{rules}
use Rattle.std.proofs.lemmas.Result.{on_ok_weaker}
use Rattle.std.specs.Prelude.{codes}
use Rattle.net_docs.specs.NetworkMap.{dependent_tags, version_tag}
use Rattle.net_docs.proofs.WritingLemmas.{array_of_one, named_value}
use Rattle.net_docs.proofs.tags.write_dependent_tags.Goals as goal

pub returns : goal.returns
returns g c =
    let net = c.args.net.now in
    let rows = g.R.RowStore.rows c.args.rows.now in
    on_ok_weaker c.end_array.result
    (λ closed. named_value (codes "dependent-vtags") (dependent_tags rows net) c.args.out.now c.key.new.self
    c.end_array.new.self c.in_ok-key.ensures.ok (search rules)
    (array_of_one (version_tag rows net) c.key.new.self c.begin_array.new.self c.write_version_tag.new.out
    c.end_array.new.self (search rules) (search rules)
    c.in_ok-write_version_tag.ensures closed (search rules)))
    c.end_array.ensures.ok
