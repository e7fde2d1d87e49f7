use Rattle.std.proofs.Common.{◌≡◌, ◌∷◌, ◌+◌, drop, refl}
use Rattle.std.proofs.lemmas.List.{drop_all, drop_more}
use Rattle.std.specs.Arc.{arc_value}
use Rattle.cost_tables.specs.Lists.{table_of}
use Rattle.cost_tables.specs.Tables.{TellsCosts}
use Rattle.cost_tables.proofs.TablesLemmas.{AreMade, made_costs, one_made, other_passed}
use Rattle.cost_tables.proofs.tables.CostTables.of.Goals as goal
use Rattle.cost_tables.proofs.tables.CostTables.of.Goals.{in-Cost+in_ok-of+in_ok-table+in_ok-metric_table+in_ok-push}
use Rattle.cost_tables.proofs.tables.CostTables.of.Goals.{in_default}

pub loop-of-preserved : goal.loop-of-preserved
loop-of-preserved g c =
    let of = c.of-item.result in
    let left = drop (c.loop-of.of-index + 1) c.args.resources.now in
    let step : drop c.loop-of.of-index c.args.resources.now ≡ of ∷ left =
    rw (drop_more c.args.resources.now c.loop-of.of-index of c.loop-of-test.true, ← c.of-item.is) refl in
    let rows = g.R.RowStore.rows c.args.rows.now in
    let made : AreMade rows (of ∷ left) c.args.resources.now c.loop-of.tables.items = rw (← step) c.loop-of.invariant in
    elim c.match-of.branch [
      | in-Cost+in_ok-of+in_ok-table+in_ok-metric_table+in_ok-push w ↦
          let tells : TellsCosts rows w.in-Cost.net w.in-Cost.metric (table_of (arc_value w.in_ok-table.table)) =
          rw w.in_ok-table.ensures.ok w.in_ok-of.ensures in
          one_made rows of left _ _ _ _ _ _ _ w.in-Cost.is made tells (rw w.tables-is w.in_ok-push.ensures.items)
          w.in_ok-metric_table.ensures
      | in_default w ↦ rw w.tables-is (other_passed rows of left _ _ w.in_default.not-Cost made)
    ]

pub returns : goal.returns
returns g c =
    made_costs _ _ _ _ c.requires.good (drop_all c.loop-of.of-index c.args.resources.now c.loop-of-test.false)
    c.requires.declared c.loop-of.invariant
