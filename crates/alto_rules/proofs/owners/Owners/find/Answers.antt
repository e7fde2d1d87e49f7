-- The map is looked up in the order of places.
use Rattle.std.specs.BTreeMap as map
use Rattle.std.specs.Prelude.{◌≡◌, Some, None}
use Rattle.alto_rules.proofs.Orders.{by_place_cmp}
use Rattle.alto_rules.proofs.owners.Owners.find.Goals as goal

pub returns-in_ok-copied_owner-in-Some : goal.returns-in_ok-copied_owner-in-Some
returns-in_ok-copied_owner-in-Some c =
    rw c.in_ok-copied_owner-in-Some.ensures
    (by_place_cmp (λ R. Some c.in-Some.owner.now ≡ map.get R c.args.self.now.of c.args.place.now)
    c.in-Some.ensures.value)

pub returns-in-None : goal.returns-in-None
returns-in-None c = by_place_cmp (λ R. None ≡ map.get R c.args.self.now.of c.args.place.now) c.in-None.ensures.value
