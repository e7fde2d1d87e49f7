-- One group, and what stands behind it.
use Rattle.std.proofs.Common.{◌≡◌, ◌-◌, ◌+◌, suc, arith, subst, sym, refl, max}
use Rattle.alto_addr.specs.Place.{IsLongestFront}
use Rattle.alto_addr.specs.Languages.{IsTokenFront}
use Rattle.alto_addr.specs.Tokens.{IsGroup}
use Rattle.alto_addr.specs.Fronts.{TailGroups}
use Rattle.alto_addr.proofs.Steps.{tail_one, tail_none, tail_on, tail_stop, of_more}
use Rattle.alto_addr.proofs.front.+tail_front.Goals as goal

pub returns-then-more-eq0 : goal.returns-then-more-eq0
returns-then-more-eq0 t c =
    subst (λ n. IsLongestFront (TailGroups n) c.args.text.now c.group_front-group.result) (sym c.if-more-eq0.true)
    (tail_one _ _ c.group_front-group.ensures)

pub returns-then-group-eq0 : goal.returns-then-group-eq0
returns-then-group-eq0 t c =
    of_more TailGroups c.args.more c.args.text.now _ _ (omega arith) refl
    (tail_none (c.args.more - 1) c.args.text.now c.octets_front-octets.result
    (subst (λ n. IsTokenFront IsGroup c.args.text.now n) c.if-group-eq0.true c.group_front-group.ensures)
    c.octets_front-octets.ensures)

pub returns-in-Some : goal.returns-in-Some
returns-in-Some t c =
    let size : max (c.group_front-group.result + suc c.tail_front.result) c.octets_front-octets.result ≡ c.max.result =
    omega (arith, c.max.ensures) in
    of_more TailGroups c.args.more c.args.text.now _ _ (omega arith) size
    (tail_on (c.args.more - 1) c.args.text.now c.in-Some.rest.now c.group_front-group.result c.tail_front.result
    c.octets_front-octets.result
    (omega arith) c.group_front-group.ensures c.in-Some.ensures c.tail_front.ensures c.octets_front-octets.ensures)

pub returns-in-None : goal.returns-in-None
returns-in-None t c =
    let size : max c.group_front-group.result c.octets_front-octets.result ≡ c.max-in-None.result =
    omega (arith, c.max-in-None.ensures) in
    of_more TailGroups c.args.more c.args.text.now _ _ (omega arith) size
    (tail_stop (c.args.more - 1) c.args.text.now c.group_front-group.result c.octets_front-octets.result
    (omega arith) c.group_front-group.ensures c.in-None.ensures c.octets_front-octets.ensures)
