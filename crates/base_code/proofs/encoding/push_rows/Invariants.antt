-- The pieces of the parts so far.
use Rattle.std.proofs.Common.{◌≡◌, map, vec_items}
use Rattle.std.specs.Slice.Iter.{chunks_rest, chunks_size}
use Rattle.base_code.specs.Pieces.{rows_piece}
use Rattle.base_code.proofs.PartLemmas.{HasPieces}
use Rattle.base_code.proofs.encoding.push_rows.Given as goal

abbrev pub invariant-loop-part : goal.invariant-loop-part
invariant-loop-part l = record {
  size : chunks_size l.part-iterator ≡ 4096;
  has : HasPieces rows_piece l.rows (chunks_rest l.part-iterator) (map vec_items l.initial.pieces.items)
      (map vec_items l.pieces.items);
}
