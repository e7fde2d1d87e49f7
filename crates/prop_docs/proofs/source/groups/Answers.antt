use Rattle.std.proofs.Common.{◌≡◌, ◌∙◌}
use Rattle.alto_maps.specs.Shape.{group_object}
use Rattle.net_docs.proofs.PidLemmas.{groups_of_all}
use Rattle.prop_docs.specs.PropertyMap.{entities_of, prop_face}
use Rattle.prop_docs.proofs.source.groups.Goals as goal

pub loop-text-init : goal.loop-text-init
loop-text-init g c =
    let net = c.args.net.now in
    let rows = g.R.RowStore.rows c.args.rows.now in
    let gives : c.into_iter-text-iterator.result ≡ c.in_ok-text-items.text-items.keys =
    c.into_iter-text-iterator.ensures.into_iter_gives.0 in
    let all : c.into_iter-text-iterator.result ≡ entities_of rows net = gives ∙ c.in_ok-text-items.ensures in
    rw (c.new-groups.ensures, all) (groups_of_all (group_object (prop_face net rows)) (entities_of rows net))
