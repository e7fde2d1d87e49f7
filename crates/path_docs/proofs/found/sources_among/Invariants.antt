use Rattle.std.proofs.Common.{◌≡◌, ◌++◌, drop, map}
use Rattle.path_docs.specs.Found.{source_found}
use Rattle.path_docs.proofs.found.sources_among.Given as goal

abbrev pub invariant-loop-src : goal.invariant-loop-src
invariant-loop-src g l =
    let found = source_found (g.R.RowStore.rows l.rows) l.net l.dsts in
    l.sources.items ++ map found (drop l.src-index l.srcs) ≡ map found l.srcs
