-- The tables tell the costs of the rows.
use Rattle.std.proofs.Common.{◌≡◌, ◌∙◌, ap, map}
use Rattle.std.specs.Prelude.{List}
use Rattle.cost_filters.specs.declared.columns.Column.{Column}
use Rattle.cost_tables.specs.Tables.{AreCostsOf}
use Rattle.cost_filters.specs.Between.{columns_at, tested_between, told_between}
use Rattle.cost_filters.specs.Pairs.{PairsData, pair_costs}
use Rattle.cost_filters.proofs.BetweenLemmas.{all_between, tested_tell, told_tell}
use Rattle.cost_filters.proofs.pairs.Pairs.between.Goals as goal

pub returns : goal.returns
returns g c =
    let rows = g.R.RowStore.rows c.self.inside.rows.now in
    let tables = c.self.inside.tables.now in
    let net = c.self.inside.net.now in
    let columns = c.self.inside.columns.items in
    let srcs = c.args.srcs.now in
    let dsts = c.args.dsts.now in
    let told = c.in_ok-told.told.items in
    let tested = tested_between tables net c.self.inside.tested.now srcs dsts in
    let costs : AreCostsOf rows tables = c.self.invariant.1 in
    let inside : PairsData = record {
      rows = rows;
      net = net;
      types = c.self.inside.types.now;
      tested = c.self.inside.tested.now;
      alternatives = map (λ constraints. constraints.items) c.self.inside.alternatives.now;
    } in
    let made : told ≡ told_between tables net columns srcs dsts =
    c.in_ok-told.ensures
    ∙ ap (λ (columns : List Column). told_between tables net columns srcs dsts) c.deref.ensures.value in
    c.new.ensures
    ∙ (all_between inside columns srcs dsts told tested c.in_ok-shown.shown c.self.invariant.2
    (rw c.deref-2.ensures.value at c.in_ok-shown.ensures)
    (λ at d within. ap (columns_at at) made ∙ told_tell rows tables net columns srcs dsts at d within costs)
    (λ at d within. tested_tell rows tables net c.self.inside.tested.now srcs dsts at d within costs)
    ∙ ap (λ (asked : PairsData). map (λ src. map (pair_costs asked src) dsts) srcs) c.self.view_is)
