-- The rows from the place of the cut on.
use Rattle.std.proofs.Common.{◌∙◌, rules}
use Rattle.std.proofs.lemmas.List.{take_rest}
use Rattle.std.proofs.lemmas.List.Sorted.{IsPartitionPoint-from_clause}
use Rattle.std.specs.Prelude.{not}
use Rattle.alto_rows.specs.declared.key.Key.{Key}
use Rattle.alto_rows.specs.declared.value.Value.{Value}
use Rattle.row_chunks.specs.Shared.{keeps_in}
use Rattle.row_chunks.proofs.BlockLemmas.{drop_at_cut}
use Rattle.row_chunks.proofs.SharedLemmas.{partitioned_in, point_in}
use Rattle.row_chunks.proofs.chunk.tail_behind.Goals as goal

pub returns : goal.returns
returns c =
    let rows = c.args.rows.now in
    let cut = c.args.cut.now in
    let shared = c.args.shared in
    let at = c.partition_point-at.result in
    take_rest rows at
    ∙ drop_at_cut cut rows at
    (point_in (λ (row : Key × Value). row.0) cut shared rows at c.partition_point-at.ensures.bound c.requires.shared
    (IsPartitionPoint-from_clause (λ row. not (keeps_in cut shared row.0)) rows at
    c.partition_point-at.ensures.partitioned
    (partitioned_in (λ (row : Key × Value). row.0) cut shared rows c.requires.sorted c.requires.shared)
    (λ a r f k. search rules)))
