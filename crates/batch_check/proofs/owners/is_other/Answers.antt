-- The map is looked up in the order of places.
use Rattle.std.proofs.Common.{◌≡◌, refl}
use Rattle.std.specs.BTreeMap as map
use Rattle.std.specs.Prelude.{Some, None}
use Rattle.batch_check.proofs.Orders.{by_place_cmp}
use Rattle.batch_check.proofs.owners.is_other.Goals as goal

pub returns-in-Some : goal.returns-in-Some
returns-in-Some c =
    rw (← by_place_cmp (λ R. Some c.in-Some.owner.now ≡ map.get R c.args.owners.now c.args.place.now)
    c.in-Some.ensures.value) c.ne.ensures

pub returns-in-None : goal.returns-in-None
returns-in-None c = rw (← by_place_cmp (λ R. None ≡ map.get R c.args.owners.now c.args.place.now)
    c.in-None.ensures.value) refl
