-- Either no block begins before the cut, or it goes through the last that does.
use Rattle.std.proofs.Common.{◌≡◌, length, suc, rules, arith}
use Rattle.row_chunks.proofs.BlockLemmas.{run_at_start, run_in_round, run_past_round}
use Rattle.row_chunks.proofs.blocks.run_round.Goals as goal

pub returns-in_default : goal.returns-in_default
returns-in_default g c =
    run_at_start c.args.cut.now c.args.slots.now c.args.passed c.first_run_at.result.now (search (rules, arith))
    c.requires.begin c.requires.sorted
    c.requires.passed c.first_run_at.ensures

pub returns-then-is_empty : goal.returns-then-is_empty
returns-then-is_empty g c =
    let next : c.args.passed ≡ suc c.in-Some.last = search (rules, arith) in
    let none : length c.run_at-run.result.now ≡ 0 = search (rules, arith) in
    run_past_round c.args.cut.now c.args.slots.now c.in-Some.last c.args.passed c.run_at-run.result.now
    c.first_run_at-then-is_empty.result.now next
    c.requires.begin c.requires.sorted c.requires.passed c.run_at-run.ensures none c.first_run_at-then-is_empty.ensures

pub returns-else-is_empty : goal.returns-else-is_empty
returns-else-is_empty g c =
    let next : c.args.passed ≡ suc c.in-Some.last = search (rules, arith) in
    run_in_round c.args.cut.now c.args.slots.now c.in-Some.last c.args.passed c.run_at-run.result.now next
    c.requires.begin c.requires.sorted c.requires.passed c.run_at-run.ensures (λ none. search (rules, arith))
