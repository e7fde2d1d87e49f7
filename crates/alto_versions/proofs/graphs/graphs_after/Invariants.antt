use Rattle.std.proofs.Common.{◌≡◌, ◌++◌, map, true}
use Rattle.std.specs.Arc.{arc_value}
use Rattle.std.specs.List.{AllByRecursion}
use Rattle.alto_rows.specs.Versions.{is_declared, resources_of}
use Rattle.alto_versions.specs.Graphs.{AreTouching, entries}
use Rattle.alto_versions.proofs.MatchLemmas.{matched}
use Rattle.alto_versions.proofs.graphs.graphs_after.Given as goal

-- the graphs that are there, and those of the resources that are left, are all
abbrev pub invariant-loop-of : goal.invariant-loop-of
invariant-loop-of g l =
    let rows = g.R.RowStore.rows (arc_value l.rows) in
    let left = l.of-iterator.rest.items in
    record {
      declared : AllByRecursion (λ of. is_declared rows of ≡ true) left;
      whole : entries l.after.items ++ matched left (entries l.left) rows l.writes
          ≡ matched (resources_of rows) (entries l.graphs) rows l.writes;
      keys : AreTouching l.writes (map (λ keys. keys.items) l.found.rest.items) left;
    }
