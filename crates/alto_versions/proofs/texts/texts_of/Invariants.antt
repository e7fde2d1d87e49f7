use Rattle.std.proofs.Common.{◌≡◌, ◌++◌}
use Rattle.std.specs.Prelude.{map}
use Rattle.alto_versions.specs.Graphs.{entries}
use Rattle.alto_versions.specs.Texts.{MapText, map_pieces, texts_in}
use Rattle.alto_versions.proofs.texts.texts_of.Given as goal

-- the texts that are there, and those of the resources that are left, are all
abbrev pub invariant-loop-of : goal.invariant-loop-of
invariant-loop-of g l =
    let rows = g.R.RowStore.rows l.rows in
    entries l.texts.items ++ map {B = MapText} (λ of. (of, map_pieces rows of)) l.of-iterator.rest.items ≡ texts_in rows
