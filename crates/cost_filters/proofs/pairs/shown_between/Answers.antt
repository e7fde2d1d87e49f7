use Rattle.std.proofs.Common.{◌∙◌, ap, length, map, sym}
use Rattle.std.specs.Prelude.{List}
use Rattle.cost_filters.specs.Between.{Costs, columns_at, flags_between, tested_between}
use Rattle.cost_filters.proofs.BetweenLemmas.{tested_shown, untested_shown}
use Rattle.cost_filters.proofs.pairs.shown_between.Goals as goal

pub returns-then-one_is_empty : goal.returns-then-one_is_empty
returns-then-one_is_empty c src dst within inside =
    let tested = tested_between c.args.tables.now c.args.net.now c.args.types.now c.args.srcs.now c.args.dsts.now in
    untested_shown (map (λ constraints. constraints.items) c.args.alternatives.now) (columns_at src c.args.told.now)
    (columns_at src tested) dst (sym c.one_is_empty.ensures ∙ c.if-one_is_empty.true)

pub returns : goal.returns
returns c src dst within inside =
    let alternatives = map (λ constraints. constraints.items) c.args.alternatives.now in
    let told = c.args.told.now in
    let srcs = length c.args.srcs.now in
    let dsts = length c.args.dsts.now in
    let tested = tested_between c.args.tables.now c.args.net.now c.args.types.now c.args.srcs.now c.args.dsts.now in
    tested_shown alternatives told tested srcs dsts src dst (map (λ row. row.items) c.in_ok-flags.flags.items)
    (c.in_ok-flags.ensures
    ∙ ap (λ (tests : List Costs). flags_between alternatives told tests srcs dsts)
    (c.deref.ensures.value ∙ c.in_ok-tested.ensures)) within inside
