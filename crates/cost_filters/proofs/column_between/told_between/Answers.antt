use Rattle.std.proofs.Common.{◌≡◌, ◌∷◌, ◌+◌, drop, refl}
use Rattle.std.proofs.lemmas.List.{drop_more}
use Rattle.cost_filters.specs.declared.columns.Column.{Column}
use Rattle.cost_filters.specs.Between.{Costs, column_between}
use Rattle.cost_filters.proofs.BetweenLemmas.{column_more}
use Rattle.cost_filters.proofs.column_between.told_between.Goals as goal

pub loop-column-preserved : goal.loop-column-preserved
loop-column-preserved c =
    let l = c.loop-column in
    let costs : Column → Costs =
    λ column. column_between c.args.tables.now c.args.net.now c.args.srcs.now c.args.dsts.now column.metric
    column.scale in
    let columns = c.args.columns.now in
    let column = c.column-item.result in
    let left = drop (l.column-index + 1) columns in
    let step : drop l.column-index columns ≡ column ∷ left =
    rw (drop_more columns l.column-index column c.loop-column-test.true, ← c.column-item.is) refl in
    rw c.in_ok-push.ensures.items
    (column_more costs l.told.items c.in_ok-of_column.field-0 column left _ c.in_ok-of_column.ensures
    (rw step at l.invariant))
