use Rattle.std.proofs.Common.{◌≡◌, suc, ◌-◌, refl, arith}
use Rattle.code_bytes.proofs.CharLemmas.{lead_passes, no_lead, no_room}
use Rattle.code_bytes.proofs.inside.behind_lead.Goals as goal

pub returns-in_err-many : goal.returns-in_err-many
returns-in_err-many c = rw c.from_residual.ensures (λ text. no_lead c.args.count c.args.byte text c.in_err-many.ensures)

pub returns-then-count-many : goal.returns-then-count-many
returns-then-count-many c text = no_room c.in_ok-many.many c.args.count c.args.byte text c.in_ok-many.ensures
    c.if-count-many.true

pub returns : goal.returns
returns c =
    let left : c.args.count - c.in_ok-many.many - 1 ≡ c.args.count - suc c.in_ok-many.many = omega arith in
    lead_passes c.in_ok-many.many c.args.count c.args.byte _ c.in_ok-many.ensures (omega (arith, c.if-count-many.false))
    (rw (c.second_least.ensures, c.second_most.ensures, left) refl)
