-- The order of the two names.
use Rattle.std.proofs.lemmas.Result.{on_ok_weaker}
use Rattle.net_docs.specs.NetworkMap.{dependent_tags}
use Rattle.cost_filters.specs.Filter.{types_data}
use Rattle.cost_filters.proofs.TextLemmas.{meta_multi, meta_single}
use Rattle.cost_filters.proofs.filter.write_meta_members.Goals as goal

pub returns-then-multi : goal.returns-then-multi
returns-then-multi g c =
    let tags = dependent_tags (g.R.RowStore.rows c.args.rows.now) c.args.net.now in
    let types = types_data c.args.multi c.args.types.now in
    on_ok_weaker c.write_types.result
    (λ second. meta_multi c.args.multi types tags c.args.out.now c.write_dependent_tags.new.out
    c.write_types.new.out c.if-multi.true
    c.in_ok-write_dependent_tags.ensures second)
    c.write_types.ensures

pub returns : goal.returns
returns g c =
    let tags = dependent_tags (g.R.RowStore.rows c.args.rows.now) c.args.net.now in
    let types = types_data c.args.multi c.args.types.now in
    on_ok_weaker c.write_dependent_tags-2.result
    (λ second. meta_single c.args.multi types tags c.args.out.now c.write_types-2.new.out
    c.write_dependent_tags-2.new.out c.if-multi.false
    c.in_ok-write_types.ensures second)
    c.write_dependent_tags-2.ensures
