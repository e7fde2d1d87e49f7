use Rattle.std.proofs.Common.{◌≡◌, Some, None, sym, arith}
use Rattle.prop_filters.specs.Inherit.{value_at}
use Rattle.prop_filters.proofs.InheritLemmas.{first_is_longest, none_left, none_more}
use Rattle.prop_filters.proofs.inherit.inherited.Goals as goal

pub returns-in-Some : goal.returns-in-Some
returns-in-Some g c =
    let rows = g.R.RowStore.rows c.args.rows.now in
    let net = c.args.net.now in
    let name = c.args.name.now in
    let at : value_at rows net c.cut-outer.result name ≡ Some c.in-Some.value.now =
    sym (rw c.in-Some.is at c.in_ok-value.ensures) in
    sym
    (first_is_longest rows net c.args.block.now name c.loop-fewer.fewer c.cut-outer.result c.in-Some.value.now
    c.requires.sorted c.loop-fewer.invariant (omega arith)
    c.cut-outer.ensures.around c.cut-outer.ensures.len at)

pub loop-fewer-preserved : goal.loop-fewer-preserved
loop-fewer-preserved g c =
    let rows = g.R.RowStore.rows c.args.rows.now in
    let net = c.args.net.now in
    let name = c.args.name.now in
    let none : value_at rows net c.cut-outer.result name ≡ None = sym (rw c.in_default.is at c.in_ok-value.ensures) in
    none_more rows net c.args.block.now name c.loop-fewer.fewer c.cut-outer.result c.loop-fewer.invariant (omega arith)
    c.cut-outer.ensures.around c.cut-outer.ensures.len none

pub returns : goal.returns
returns g c =
    sym
    (none_left (g.R.RowStore.rows c.args.rows.now) c.args.net.now c.args.block.now c.args.name.now c.loop-fewer.fewer
    c.requires.sorted (omega arith) c.loop-fewer.invariant)
