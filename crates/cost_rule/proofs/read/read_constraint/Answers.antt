-- Where no stage follows, the bytes so far are the longest beginning, and else the last stage answers.
use Rattle.std.proofs.Common.{◌∙◌, ◌∷◌, [], take, get_or, sym, ap, arith}
use Rattle.std.specs.Option.{option_and_then}
use Rattle.std.proofs.lemmas.List.{take_more}
use Rattle.cost_rule.specs.declared.stage.Stage.TheVariants.{Start}
use Rattle.cost_rule.proofs.Longest.{err-end, longest-stuck, ok-end, only-end, spells-stuck, walked-all}
use Rattle.cost_rule.proofs.Reading.{walk, walk-append, walk-nil, walk-one}
use Rattle.cost_rule.proofs.read.read_constraint.Goals as goal

pub loop-place-init : goal.loop-place-init
loop-place-init c = record { walked = walk-nil Start; sound = tt }

pub returns-in-None-clause-only : goal.returns-in-None-clause-only
returns-in-None-clause-only c constraint spelled =
    absurd (spells-stuck c.args.text.now c.loop-place.place c.loop-place.stage (omega arith)
    c.loop-place.invariant.walked
    (sym c.in-None.ensures.next) constraint spelled)

pub returns-in-None-clause-err : goal.returns-in-None-clause-err
returns-in-None-clause-err c =
    longest-stuck c.args.text.now c.loop-place.place c.loop-place.stage (omega arith) c.loop-place.invariant.walked
    (sym c.in-None.ensures.next)

pub loop-place-preserved : goal.loop-place-preserved
loop-place-preserved c =
    let byte = get_or c.args.text.now c.loop-place.place 0 in
    record {
      walked =
          ap (walk Start) (take_more c.args.text.now c.loop-place.place 0 (omega arith))
          ∙ walk-append Start (take c.loop-place.place c.args.text.now) (byte ∷ [])
          ∙ ap (option_and_then (λ next. walk next (byte ∷ []))) c.loop-place.invariant.walked
          ∙ walk-one c.loop-place.stage byte
          ∙ sym c.in-Some.ensures.next;
      sound = c.in-Some.ensures.sound;
    }

pub returns-clause-ok : goal.returns-clause-ok
returns-clause-ok c =
    rw c.ok_or.ensures.value
    (ok-end c.args.text.now c.loop-place.stage
    (walked-all c.args.text.now c.loop-place.place c.loop-place.stage (omega arith) c.loop-place.invariant.walked)
    c.finish.result _ c.finish.ensures)

pub returns-clause-only : goal.returns-clause-only
returns-clause-only c constraint spelled =
    c.ok_or.ensures.value
    ∙ only-end c.args.text.now c.loop-place.stage
    (walked-all c.args.text.now c.loop-place.place c.loop-place.stage (omega arith) c.loop-place.invariant.walked)
    c.finish.result _ c.finish.ensures
    constraint spelled

pub returns-clause-err : goal.returns-clause-err
returns-clause-err c =
    rw c.ok_or.ensures.value
    (err-end c.args.text.now c.loop-place.stage
    (walked-all c.args.text.now c.loop-place.place c.loop-place.stage (omega arith) c.loop-place.invariant.walked)
    c.finish.result)
