use Rattle.code_bytes.specs.Inside.{GoesOn}
use Rattle.code_bytes.proofs.CharLemmas.{some_text}
use Rattle.code_bytes.proofs.StuckLemmas.{outside_bad, outside_end, outside_next, outside_on}
use Rattle.code_bytes.proofs.inside.left_in_text.Goals as goal

pub loop-byte-init : goal.loop-byte-init
loop-byte-init c =
    let some = some_text c.args.count in
    record { outside = c.requires; lifts = λ left s. s; some = some.0; goes_on = some.1 }

pub returns-in_default-behind_byte : goal.returns-in_default-behind_byte
returns-in_default-behind_byte c =
    let l = c.loop-byte in
    l.invariant.lifts _ (outside_bad (GoesOn l.at) c.in-Some.byte l.rest.now c.in-Some.after.now l.invariant.some
    c.in-Some.ensures.0 l.invariant.outside
    l.invariant.goes_on c.in_default-behind_byte.ensures)

pub loop-byte-preserved : goal.loop-byte-preserved
loop-byte-preserved c =
    let l = c.loop-byte in
    let passes = c.in-Some-behind_byte.ensures in
    let next = c.in-Some-behind_byte.next in
    record {
      outside = outside_next (GoesOn l.at) (GoesOn next) c.in-Some.byte l.rest.now c.in-Some.after.now
          c.in-Some.ensures.0 l.invariant.outside passes.from;
      lifts = λ left s. l.invariant.lifts left
          (outside_on (GoesOn l.at) (GoesOn next) c.in-Some.byte l.rest.now c.in-Some.after.now left c.in-Some.ensures.0
          l.invariant.outside passes.to passes.from s);
      some = passes.some;
      goes_on = passes.goes_on;
    }

pub returns : goal.returns
returns c =
    let l = c.loop-byte in
    l.invariant.lifts 0 (outside_end (GoesOn l.at) l.rest.now l.invariant.some c.in_default.ensures l.invariant.outside
    l.invariant.goes_on)
