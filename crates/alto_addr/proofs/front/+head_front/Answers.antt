-- One group, and what stands behind it.
use Rattle.std.proofs.Common.{◌≡◌, ◌-◌, ◌+◌, suc, arith, subst, sym, refl, max}
use Rattle.alto_addr.specs.Place.{IsLongestFront}
use Rattle.alto_addr.specs.Languages.{IsTokenFront}
use Rattle.alto_addr.specs.Tokens.{IsGroup}
use Rattle.alto_addr.specs.Fronts.{HeadGroups}
use Rattle.alto_addr.proofs.Steps.{head_one, head_none, head_on, head_elided, head_stop, of_more}
use Rattle.alto_addr.proofs.front.+head_front.Goals as goal

pub returns-then-more-eq0 : goal.returns-then-more-eq0
returns-then-more-eq0 t c =
    subst (λ n. IsLongestFront (HeadGroups n) c.args.text.now c.group_front-group.result) (sym c.if-more-eq0.true)
    (head_one _ _ c.group_front-group.ensures)

pub returns-then-group-eq0 : goal.returns-then-group-eq0
returns-then-group-eq0 t c =
    of_more HeadGroups c.args.more c.args.text.now _ _ (omega arith) refl
    (head_none (c.args.more - 1) c.args.text.now c.last_octets_front-octets.result
    (subst (λ n. IsTokenFront IsGroup c.args.text.now n) c.if-group-eq0.true c.group_front-group.ensures)
    (λ e. c.last_octets_front-octets.ensures.last (omega arith))
    (λ other. c.last_octets_front-octets.ensures.none (λ e. other (omega arith))))

pub returns-in_default : goal.returns-in_default
returns-in_default t c =
    let size : max c.group_front-group.result c.last_octets_front-octets.result ≡ c.max.result =
    omega (arith, c.max.ensures) in
    of_more HeadGroups c.args.more c.args.text.now _ _ (omega arith) size
    (head_stop (c.args.more - 1) c.args.text.now c.group_front-group.result c.last_octets_front-octets.result
    (omega arith) c.group_front-group.ensures c.in_default.ensures
    (λ e. c.last_octets_front-octets.ensures.last (omega arith))
    (λ other. c.last_octets_front-octets.ensures.none (λ e. other (omega arith))))

pub returns-in-Some-behind : goal.returns-in-Some-behind
returns-in-Some-behind t c =
    let size : max (c.group_front-group.result + suc (suc c.tail_up_to_front.result)) c.last_octets_front-octets.result
    ≡ c.max-in-Some-behind.result =
    omega (arith, c.max-in-Some-behind.ensures) in
    of_more HeadGroups c.args.more c.args.text.now _ _ (omega arith) size
    (head_elided (c.args.more - 1) c.args.text.now c.in-Some.rest.now c.in-Some-behind.tail.now
    c.group_front-group.result c.tail_up_to_front.result c.last_octets_front-octets.result
    (omega arith) c.group_front-group.ensures c.in-Some.ensures c.in-Some-behind.ensures c.tail_up_to_front.ensures
    (λ e. c.last_octets_front-octets.ensures.last (omega arith))
    (λ other. c.last_octets_front-octets.ensures.none (λ e. other (omega arith))))

pub returns-in-None : goal.returns-in-None
returns-in-None t c =
    let size : max (c.group_front-group.result + suc c.head_front.result) c.last_octets_front-octets.result
    ≡ c.max-in-None.result =
    omega (arith, c.max-in-None.ensures) in
    of_more HeadGroups c.args.more c.args.text.now _ _ (omega arith) size
    (head_on (c.args.more - 1) c.args.text.now c.in-Some.rest.now
    c.group_front-group.result c.head_front.result c.last_octets_front-octets.result
    (omega arith) c.group_front-group.ensures c.in-Some.ensures c.in-None.ensures c.head_front.ensures
    (λ e. c.last_octets_front-octets.ensures.last (omega arith))
    (λ other. c.last_octets_front-octets.ensures.none (λ e. other (omega arith))))
