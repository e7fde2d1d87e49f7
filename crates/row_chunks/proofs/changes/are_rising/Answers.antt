-- Each key is after the one before it, up to the end.
use Rattle.std.proofs.Common.{◌≡◌, rules}
use Rattle.std.specs.Prelude.{true}
use Rattle.std.specs.Ordering.{is_lt}
use Rattle.alto_rows.specs.Order.{key_cmp}
use Rattle.row_chunks.proofs.RisingLemmas.{rising_none, rising_begun, rising_step, rising_ended}
use Rattle.row_chunks.proofs.changes.are_rising.Goals as goal

pub returns-in_default : goal.returns-in_default
returns-in_default c = λ _. rising_none c.args.writes.now (search rules)

pub loop-write-init : goal.loop-write-init
loop-write-init c = λ o. rising_begun c.args.writes.now c.in-Some.first.now c.in-Some.rest.now
    c.in-Some.ensures.cases.0 o

pub loop-write-preserved : goal.loop-write-preserved
loop-write-preserved c =
    let l = c.loop-write in
    let write = c.write-item.result in
    let less : is_lt (key_cmp l.last.now.key write.key) ≡ true = search rules in
    λ o. l.invariant (rising_step l.last.now write c.in-Some.rest.now l.write-index c.loop-write-test.true
    c.write-item.is less o)

pub returns : goal.returns
returns c = λ _. c.loop-write.invariant (rising_ended c.loop-write.last.now c.in-Some.rest.now c.loop-write.write-index
    (search (rules, c.loop-write-test.false)))
