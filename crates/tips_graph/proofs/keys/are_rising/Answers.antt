-- Each key is after the one before it, up to the end.
use Rattle.std.proofs.Common.{◌≡◌, rules}
use Rattle.std.specs.Prelude.{true}
use Rattle.std.specs.Ordering.{is_lt}
use Rattle.alto_rows.specs.Order.{key_cmp}
use Rattle.tips_graph.proofs.KeySetLemmas.{key_set-sorted}
use Rattle.tips_graph.proofs.RisingLemmas.{rising_none, rising_begun, rising_step, rising_ended}
use Rattle.tips_graph.proofs.keys.are_rising.Goals as goal

pub returns-in_default-clause-set : goal.returns-in_default-clause-set
returns-in_default-clause-set c = λ _. rising_none c.args.keys.now (search rules)

pub loop-key-init : goal.loop-key-init
loop-key-init c = λ o. rising_begun c.args.keys.now c.in-Some.first.now c.in-Some.rest.now c.in-Some.ensures.cases.0 o

pub loop-key-preserved : goal.loop-key-preserved
loop-key-preserved c =
    let l = c.loop-key in
    let key = c.key-item.result in
    let before : is_lt (key_cmp l.last.now key) ≡ true = search rules in
    λ o. l.invariant (rising_step l.last.now key c.in-Some.rest.now l.key-index c.loop-key-test.true
    c.key-item.is before o)

pub returns-clause-set : goal.returns-clause-set
returns-clause-set c =
    λ _. key_set-sorted c.args.keys.now
    (c.loop-key.invariant (rising_ended c.loop-key.last.now c.in-Some.rest.now c.loop-key.key-index
    (search (rules, c.loop-key-test.false))))
