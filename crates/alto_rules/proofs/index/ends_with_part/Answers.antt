-- A set gains nothing by what it has.
use Rattle.std.specs.BTreeSet.{contains}
use Rattle.std.specs.Prelude.{◌≡◌, true}
use Rattle.alto_rules.proofs.IndexLemmas.{part_there}
use Rattle.alto_rules.proofs.Orders.{by_resource_cmp}
use Rattle.alto_rules.proofs.index.ends_with_part.Goals as goal

pub returns-in-Some : goal.returns-in-Some
returns-in-Some c = λ is of.
    rw (c.is_part_of.ensures is)
    (part_there c.args.parts.now c.in-Some.last.now of
    (by_resource_cmp (λ R. contains R c.args.parts.now c.in-Some.last.now ≡ true) c.in-Some.ensures.member))
