use Rattle.std.proofs.Common.{rules}
use Rattle.std.specs.Prelude.{codes}
use Rattle.std.proofs.lemmas.Result.{on_ok_weaker}
use Rattle.json_tree.specs.Document.{with_member}
use Rattle.net_docs.specs.NetworkMap.{dependent_tags}
use Rattle.prop_docs.proofs.WritingLemmas.{object_of_one}
use Rattle.prop_docs.proofs.writing.write_meta.Goals as goal

pub returns : goal.returns
unfolding with_member
returns g c =
    on_ok_weaker c.end_object.result
    (λ closed. object_of_one (codes "dependent-vtags")
    (dependent_tags (g.R.RowStore.rows c.args.rows.now) c.args.net.now) c.args.out.now c.begin_object.new.self
    c.write_dependent_tags.new.out c.end_object.new.self (search rules) (search rules)
    c.in_ok-write_dependent_tags.ensures closed (search rules))
    c.end_object.ensures.ok
