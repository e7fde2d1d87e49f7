use Rattle.std.proofs.Common.{◌<◌, ◌≤◌, ◌^◌, arith, ⊎_elim}
use Rattle.std.proofs.Math.Pow.{pow_mono}
use Rattle.std.proofs.lemmas.Bool.{cases_lt}
use Rattle.pid_prefix.proofs.laws.sixteen_steps_are_enough.Goals as goal

pub returns : goal.returns
returns c = λ steps prefixes most cost.
    ⊎_elim
    (λ (more : 16 < steps).
    let above : 17 ≤ steps = omega arith in
    let larger : 2 ^ 17 ≤ 2 ^ steps = pow_mono above in
    absurd (omega arith))
    (λ h. h)
    (cases_lt 16 steps)
