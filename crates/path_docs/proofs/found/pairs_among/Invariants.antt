use Rattle.std.proofs.Common.{◌≡◌, ◌++◌, drop}
use Rattle.path_docs.specs.Found.{pairs_among}
use Rattle.path_docs.proofs.found.pairs_among.Given as goal

abbrev pub invariant-loop-dst : goal.invariant-loop-dst
invariant-loop-dst g l =
    let rows = g.R.RowStore.rows l.rows in
    l.pairs.items ++ pairs_among rows l.net l.src (drop l.dst-index l.dsts) ≡ pairs_among rows l.net l.src l.dsts
