use Rattle.prop_filters.proofs.InheritLemmas.{NoneLonger}
use Rattle.prop_filters.proofs.inherit.inherited.Given as goal

-- no longer block around has the property
abbrev pub invariant-loop-fewer : goal.invariant-loop-fewer
invariant-loop-fewer g l = NoneLonger (g.R.RowStore.rows l.rows) l.net l.block l.name l.fewer
