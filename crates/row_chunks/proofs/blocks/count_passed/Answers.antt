-- The first keys rise, so the search ends where those before the cut do.
use Rattle.std.proofs.Common.{rules}
use Rattle.std.proofs.lemmas.List.Sorted.{IsPartitionPoint-from_clause}
use Rattle.std.specs.Prelude.{not}
use Rattle.row_chunks.specs.Blocks.{Placed}
use Rattle.row_chunks.specs.Shared.{keeps_in}
use Rattle.row_chunks.proofs.BlockLemmas.{passed_from_point, sorted_firsts}
use Rattle.row_chunks.proofs.SharedLemmas.{firsts_share, partitioned_in, point_in}
use Rattle.row_chunks.proofs.blocks.count_passed.Goals as goal

pub returns : goal.returns
returns g c =
    let slots = c.args.slots.now in
    let cut = c.args.cut.now in
    let shared = c.args.shared in
    let share = firsts_share cut shared slots c.requires.begin c.requires.shared in
    let at = c.partition_point.result in
    passed_from_point cut slots at c.partition_point.ensures.bound
    (point_in (λ (slot : Placed). slot.first) cut shared slots at c.partition_point.ensures.bound share
    (IsPartitionPoint-from_clause (λ slot. not (keeps_in cut shared slot.first)) slots at
    c.partition_point.ensures.partitioned
    (partitioned_in (λ (slot : Placed). slot.first) cut shared
    slots (sorted_firsts slots c.requires.begin c.requires.sorted) share)
    (λ a r f k. search rules)))
