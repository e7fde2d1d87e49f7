use Rattle.std.proofs.Common.{◌≡◌, ◌+◌, ◌-◌, suc, false, true, inl, inr, arith}
use Rattle.alto_serve.specs.Steps.{is_pending}
use Rattle.alto_serve.proofs.TurnLemmas.{look_lost, on_err_anyhow, turn_settles, turn_waits}
use Rattle.alto_serve.proofs.turns.settled.Goals as goal

pub returns-in_err-look-clause-err : goal.returns-in_err-look-clause-err
returns-in_err-look-clause-err g c =
    on_err_anyhow _ (look_lost _ _ _ _ _ _ _ _ _ c.loop-wait.invariant.come c.in_err-look.ensures.lost)

pub returns-then-not-is_pending-clause-ok : goal.returns-then-not-is_pending-clause-ok
returns-then-not-is_pending-clause-ok g c =
    let not_held : is_pending c.in_ok-look.look.answer ≡ false = cc in
    turn_settles _ _ _ _ _ _ _ _ _ c.loop-wait.invariant.come _ (inl not_held) c.in_ok-look.ensures.answer
    c.in_ok-look.ensures.looks

pub loop-wait-preserved : goal.loop-wait-preserved
loop-wait-preserved g c =
    let held : is_pending c.in_ok-look.look.answer ≡ true = cc in
    let one_left : c.args.most_waits - c.loop-wait._wait ≡ suc (c.args.most_waits - (c.loop-wait._wait + 1)) =
    omega arith in
    let waits = rw c.in_ok-look.ensures.number at c.wait.ensures.waited in
    record {
      come = turn_waits _ _ _ _ _ _ _ _ _ c.loop-wait.invariant.come _ _ _ held one_left c.in_ok-look.ensures.answer
          c.in_ok-look.ensures.looks waits;
      backed = λ was. c.wait.ensures.backed (c.in_ok-look.ensures.backed (c.loop-wait.invariant.backed was));
      clean = λ is. c.loop-wait.invariant.clean (c.in_ok-look.ensures.clean (c.wait.ensures.clean is));
    }

pub returns-in_err-look-2-clause-err : goal.returns-in_err-look-2-clause-err
returns-in_err-look-2-clause-err g c =
    on_err_anyhow _ (look_lost _ _ _ _ _ _ _ _ _ c.loop-wait.invariant.come c.in_err-look-2.ensures.lost)

pub returns-clause-ok : goal.returns-clause-ok
returns-clause-ok g c =
    let none : c.args.most_waits - c.loop-wait._wait ≡ 0 = omega arith in
    turn_settles _ _ _ _ _ _ _ _ _ c.loop-wait.invariant.come _ (inr none) c.in_ok-look-2.ensures.answer
    c.in_ok-look-2.ensures.looks
