-- The map gains the count.
use Rattle.std.specs.BTreeMap as map
use Rattle.std.specs.Prelude.{Some}
use Rattle.alto_rules.proofs.Orders.{by_counted_cmp}
use Rattle.alto_rules.proofs.sizes.set_count.Goals as goal

pub returns : goal.returns
returns c = by_counted_cmp (λ R. map.Updates R c.args.counts.now c.insert.new.self c.args.counted (Some c.args.count))
    c.in_ok-insert.ensures.updates
