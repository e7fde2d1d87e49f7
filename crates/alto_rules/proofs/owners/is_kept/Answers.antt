-- The map has the place in its own order.
use Rattle.std.specs.BTreeMap as map
use Rattle.std.specs.Prelude.{◌≡◌, is_some}
use Rattle.alto_rules.proofs.Orders.{by_place_cmp}
use Rattle.alto_rules.proofs.owners.is_kept.Goals as goal

pub returns : goal.returns
returns c = by_place_cmp (λ R. c.contains_key.result ≡ is_some (map.get R c.args.of.now c.args.place.now))
    c.contains_key.ensures
