use Rattle.std.proofs.Common.{rules}
use Rattle.std.proofs.lemmas.Result.{on_ok_weaker}
use Rattle.net_docs.specs.NetworkMap.{version_tag}
use Rattle.net_docs.proofs.WritingLemmas.{array_of_one}
use Rattle.edge_text.proofs.operations.write_tags.Goals as goal

pub returns : goal.returns
returns g c =
    on_ok_weaker c.end_array.result
    (λ closed. array_of_one (version_tag (g.R.RowStore.rows c.args.rows.now) c.args.net.now) c.args.out.now
    c.begin_array.new.self c.write_tag.new.out c.end_array.new.self
    (search rules) (search rules) c.in_ok-write_tag.ensures closed (search rules))
    c.end_array.ensures.ok
