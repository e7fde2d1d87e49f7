-- The rest of the block that the cut goes through, and the blocks behind it.
use Rattle.std.proofs.Common.{◌≡◌, ◌+◌, ◌≤◌, length, suc, rules, arith}
use Rattle.row_chunks.specs.Blocks.{joined}
use Rattle.row_chunks.specs.Cut.{rows_behind}
use Rattle.row_chunks.proofs.LayLemmas.{count_at_start, count_in_round, counted_behind}
use Rattle.row_chunks.proofs.blocks.count_round.Goals as goal

pub returns-in_default : goal.returns-in_default
returns-in_default g c =
    count_at_start c.args.cut.now c.args.slots.now c.args.passed c.count_from-later.result (search (rules, arith))
    c.requires.begin c.requires.sorted c.requires.passed c.count_from-later.ensures

pub overflow_add-result : goal.overflow_add-result
overflow_add-result g c =
    let next : c.args.passed ≡ suc c.in-Some.last = search (rules, arith) in
    let sum : c.count_at.result + c.count_from-later.result
    ≡ length (rows_behind c.args.cut.now (joined c.args.slots.now)) =
    count_in_round c.args.cut.now c.args.slots.now c.in-Some.last c.args.passed c.count_at.result
    c.count_from-later.result next
    c.requires.begin c.requires.sorted c.requires.passed c.count_at.ensures c.count_from-later.ensures in
    let most : length (rows_behind c.args.cut.now (joined c.args.slots.now)) ≤ c.args.total =
    counted_behind c.args.cut.now c.args.total c.args.slots.now c.requires.counted in
    search (rules, arith)

pub returns : goal.returns
returns g c =
    let next : c.args.passed ≡ suc c.in-Some.last = search (rules, arith) in
    count_in_round c.args.cut.now c.args.slots.now c.in-Some.last c.args.passed c.count_at.result
    c.count_from-later.result next
    c.requires.begin c.requires.sorted c.requires.passed c.count_at.ensures c.count_from-later.ensures
