-- Behind the rows before the block come those of it and of the blocks behind.
use Rattle.std.proofs.Common.{◌≡◌, ◌+◌, ◌<◌, length, drop, rules, arith}
use Rattle.row_chunks.specs.Blocks.{joined}
use Rattle.row_chunks.proofs.LayLemmas.{counted_from}
use Rattle.row_chunks.proofs.blocks.count_from.Goals as goal

pub overflow_sub-result : goal.overflow_sub-result
overflow_sub-result g c =
    let within : c.args.at < length c.args.slots.now = search rules in
    let place : c.rows_before.result ≡ c.in-Some.slot.now.before = c.rows_before.ensures in
    let sum : c.in-Some.slot.now.before + length (joined (drop c.args.at c.args.slots.now)) ≡ c.args.total =
    counted_from c.args.total c.args.slots.now c.args.at c.in-Some.slot.now c.requires within
    c.in-Some.ensures.lookup.1 in
    omega arith

pub returns-in-Some : goal.returns-in-Some
returns-in-Some g c =
    let within : c.args.at < length c.args.slots.now = search rules in
    let place : c.rows_before.result ≡ c.in-Some.slot.now.before = c.rows_before.ensures in
    let sum : c.in-Some.slot.now.before + length (joined (drop c.args.at c.args.slots.now)) ≡ c.args.total =
    counted_from c.args.total c.args.slots.now c.args.at c.in-Some.slot.now c.requires within
    c.in-Some.ensures.lookup.1 in
    omega arith
