-- The block at the place is sorted, and all its rows share so much.
use Rattle.std.proofs.Common.{◌<◌, length, rules}
use Rattle.row_chunks.proofs.BlockLemmas.{rows_at, sorted_rows_at}
use Rattle.row_chunks.proofs.blocks.run_at.Goals as goal

pub run_behind-requires-clause-sorted : goal.run_behind-requires-clause-sorted
run_behind-requires-clause-sorted g c =
    let within : c.args.at < length c.args.slots.now = search rules in
    rw c.block.ensures.rows
    (sorted_rows_at c.args.slots.now c.args.at c.in-Some.slot.now within c.in-Some.ensures.lookup.1 c.requires.sorted)

pub run_behind-requires-clause-shared : goal.run_behind-requires-clause-shared
run_behind-requires-clause-shared g c =
    let within : c.args.at < length c.args.slots.now = search rules in
    rw
    (c.block.ensures.rows, ← rows_at c.args.slots.now c.args.at c.in-Some.slot.now within c.in-Some.ensures.lookup.1)
    c.requires.shared
