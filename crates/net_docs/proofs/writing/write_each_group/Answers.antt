use Rattle.std.proofs.Common.{sym, ap, subst, ◌∙◌}
use Rattle.std.proofs.lemmas.Result.{on_ok_weaker}
use Rattle.alto_maps.specs.Writing.{AddsMembers}
use Rattle.net_docs.proofs.WritingLemmas.{groups_in_order, groups_stand}
use Rattle.net_docs.proofs.writing.write_each_group.Goals as goal

pub returns : goal.returns
returns g c =
    let net = c.args.net.now in
    let rows = g.R.RowStore.rows c.args.rows.now in
    on_ok_weaker c.write_groups_of.result
    (subst (λ groups. AddsMembers groups c.args.out.now c.write_groups_of.new.out)
    (ap (groups_in_order rows net) (c.deref.ensures.value ∙ c.in_ok-pids.ensures)
    ∙ sym (groups_stand rows net c.requires.sorted)))
    c.write_groups_of.ensures
