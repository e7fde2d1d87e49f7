use Rattle.std.proofs.Common.{◌≡◌, length}
use Rattle.cost_tables.proofs.FromLemmas.{rise-costs_from}
use Rattle.cost_tables.proofs.PairLemmas.{keys_of-zip}
use Rattle.cost_tables.proofs.from_source.listed.Goals as goal

pub new-requires : goal.new-requires
new-requires g c =
    let names = c.in_ok-destinations.destinations.items in
    let costs = c.in_ok-destinations.costs.items in
    let rows = g.R.RowStore.rows c.args.rows.now in
    let even : length costs ≡ length names = c.in_ok-destinations.ensures.even in
    let told = rise-costs_from rows c.args.net.now c.args.metric.now c.args.source.now c.requires in
    rw (← c.in_ok-destinations.ensures.told, keys_of-zip names costs even) at told
