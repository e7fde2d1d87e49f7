-- The set gains the resource.
use Rattle.std.specs.BTreeSet as set
use Rattle.std.specs.Prelude.{true}
use Rattle.alto_rules.proofs.Orders.{by_resource_cmp}
use Rattle.alto_rules.proofs.index.add_resource.Goals as goal

pub returns : goal.returns
returns c = by_resource_cmp (λ R. set.Updates R c.args.all.now c.insert.new.self c.args.more true)
    c.in_ok-insert.ensures.updates
