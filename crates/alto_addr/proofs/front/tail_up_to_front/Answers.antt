-- No group, or some.
use Rattle.std.proofs.Common.{◌-◌, arith, subst, sym, refl}
use Rattle.alto_addr.specs.Place.{IsLongestFront}
use Rattle.alto_addr.specs.Fronts.{TailUpTo}
use Rattle.alto_addr.proofs.Steps.{up_to_none, up_to_some, of_more}
use Rattle.alto_addr.proofs.front.tail_up_to_front.Goals as goal

pub returns-then-groups-eq0 : goal.returns-then-groups-eq0
returns-then-groups-eq0 c =
    subst (λ n. IsLongestFront (TailUpTo n) c.args.text.now 0) (sym c.if-groups-eq0.true) (up_to_none c.args.text.now)

pub returns-else-groups-eq0 : goal.returns-else-groups-eq0
returns-else-groups-eq0 c =
    of_more TailUpTo c.args.groups c.args.text.now _ _ (omega arith) refl
    (up_to_some (c.args.groups - 1) c.args.text.now c.tail_front.result c.tail_front.ensures)
