-- The map gains the owner.
use Rattle.std.specs.BTreeMap as map
use Rattle.std.specs.Prelude.{Some}
use Rattle.alto_rules.proofs.Orders.{by_place_cmp}
use Rattle.alto_rules.proofs.owners.set_owner.Goals as goal

pub returns : goal.returns
returns c = by_place_cmp (λ R. map.Updates R c.args.of.now c.insert.new.self c.args.place (Some c.args.owner))
    c.in_ok-insert.ensures.updates
