use Rattle.std.proofs.Common.{◌≡◌, ◌++◌}
use Rattle.std.specs.Prelude.{map}
use Rattle.alto_rows.specs.Prefixes.{prefixes_in}
use Rattle.alto_versions.specs.Front.{tables_in}
use Rattle.alto_versions.specs.Graphs.{entries}
use Rattle.alto_versions.proofs.tables.tables_of.Given as goal

-- the tables that are there, and those of the networks that are left, are all
abbrev pub invariant-loop-net : goal.invariant-loop-net
invariant-loop-net g l =
    let rows = g.R.RowStore.rows l.rows in
    entries l.tables.items ++ map (λ net. (net, prefixes_in rows net)) l.net-iterator.rest.items ≡ tables_in rows
