use Rattle.std.proofs.Common.{arith}
use Rattle.alto_maps.specs.Shape.{group_object}
use Rattle.doc_pieces.proofs.TextLemmas.{print_member}
use Rattle.prop_docs.specs.PropertyMap.{prop_face}
use Rattle.prop_docs.proofs.writing.group_text.Goals as goal

pub returns : goal.returns
returns g c =
    let added = c.in_ok-write_group.ensures in
    let face = prop_face c.args.net.now (g.R.RowStore.rows c.args.rows.now) in
    grind (arith, added.tokens, added.before, print_member c.args.name.now (group_object face c.args.name.now))
