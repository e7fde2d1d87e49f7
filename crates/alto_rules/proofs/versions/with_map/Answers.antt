-- One after the other joins.
use Rattle.std.proofs.Common.{subst}
use Rattle.std.specs.BTreeSet as set
use Rattle.std.specs.Prelude.{ℕ, List, true}
use Rattle.alto_rows.specs.declared.resource.Resource.TheVariants as resource
use Rattle.alto_rows.specs.Order.{resource_cmp}
use Rattle.alto_rules.proofs.VersionLemmas.{map_joined}
use Rattle.alto_rules.proofs.versions.with_map.Goals as goal

pub returns : goal.returns
returns g c =
    map_joined (g.R.RowStore.rows c.args.rows.now) c.args.net.now c.args.touched c.in_ok-with_net.with_net
    c.in_ok-with_prop.with_prop c.in_ok-all.all
    (subst (λ (n : List ℕ). set.Updates resource_cmp c.args.touched c.in_ok-with_net.with_net (resource.Net n) true)
    c.in_ok-clone.ensures.cases c.in_ok-with_net.ensures)
    (subst (λ (n : List ℕ). set.Updates resource_cmp c.in_ok-with_net.with_net c.in_ok-with_prop.with_prop
    (resource.Prop n) true) c.in_ok-clone-2.ensures.cases c.in_ok-with_prop.ensures)
    c.in_ok-all.ensures
