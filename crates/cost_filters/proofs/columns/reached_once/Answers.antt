use Rattle.std.proofs.Common.{rules}
use Rattle.std.proofs.lemmas.Result.{IfOk-weaker}
use Rattle.cost_filters.specs.Columns.{reached}
use Rattle.cost_filters.proofs.TextLemmas.{few_rise, rising_set, set_is}
use Rattle.cost_filters.proofs.columns.reached_once.Goals as goal

pub returns-then-columns-lt2 : goal.returns-then-columns-lt2
returns-then-columns-lt2 g c =
    let rows = g.R.RowStore.rows c.args.rows.now in
    rising_set c.in_ok-names.names.items (reached rows c.args.net.now c.args.columns.now c.args.src.now)
    c.in_ok-names.ensures
    (few_rise rows c.args.net.now c.args.columns.now c.args.src.now c.requires.sorted (search rules))

pub returns : goal.returns
returns g c =
    let rows = g.R.RowStore.rows c.args.rows.now in
    IfOk-weaker c.distinct_names.result _ _
    (λ set is. set_is set.items c.in_ok-names.names.items
    (reached rows c.args.net.now c.args.columns.now c.args.src.now) is c.in_ok-names.ensures)
    c.distinct_names.ensures
