use Rattle.std.proofs.Common.{◌≡◌, ◌++◌, true}
use Rattle.std.specs.Prelude.{map}
use Rattle.std.specs.List.{AllByRecursion}
use Rattle.alto_rows.specs.Rows.{Rows, after}
use Rattle.alto_rows.specs.Versions.{is_declared, resources_of}
use Rattle.alto_versions.specs.Graphs.{entries}
use Rattle.alto_versions.specs.Texts.{AreTextsOf, MapText, map_pieces, texts_in}
use Rattle.alto_versions.proofs.FoundKeyLemmas.{touching_of}
use Rattle.alto_versions.proofs.texts.texts_after.Given as goal

-- the texts that are there, and those of the resources that are left, are all; and so are the keys
abbrev pub invariant-loop-of : goal.invariant-loop-of
invariant-loop-of g l =
    let rows = g.R.RowStore.rows l.rows in
    let left = l.of-iterator.rest.items in
    record {
      declared : AllByRecursion (λ of. is_declared rows of ≡ true) left;
      whole : (before : Rows) → rows ≡ after before l.writes → AreTextsOf before (entries l.texts)
          → entries l.after.items ++ map {B = MapText} (λ of. (of, map_pieces rows of)) left ≡ texts_in rows;
      keys : map (λ keys. keys.items) l.found.items ++ map (touching_of l.writes) left
          ≡ map (touching_of l.writes) (resources_of rows);
    }
