use Rattle.std.specs.List.{filter_map}
use Rattle.prop_filters.specs.Filter.{member_of}
use Rattle.prop_filters.proofs.GroupLemmas.{outcome_of_all}
use Rattle.prop_filters.proofs.filter.group.Goals as goal

pub loop-name-init : goal.loop-name-init
loop-name-init g c =
    rw c.new-group.ensures (outcome_of_all
    (filter_map (member_of (g.R.RowStore.rows c.args.rows.now) c.args.net.now c.args.entity.now) c.args.names.now))
