use Rattle.std.proofs.Common.{map}
use Rattle.std.proofs.lemmas.List.{append_assoc}
use Rattle.std.specs.List.{filter_map}
use Rattle.alto_rows.specs.declared.resource.Resource.TheVariants as resource
use Rattle.alto_rows.specs.Versions.{cost_declared, nets_of}
use Rattle.alto_versions.proofs.ResourceLemmas.{costs_by_net}
use Rattle.alto_versions.proofs.resources.resources_of.Goals as goal

pub returns : goal.returns
returns g c =
    let rows = g.R.RowStore.rows c.args.rows.now in
    rw (
      c.in_ok-add_property_maps.ensures,
      c.in_ok-add_cost_maps.ensures,
      c.in_ok-add_network_maps.ensures,
      c.new-resources.ensures.items,
      c.deref.ensures.value,
      c.deref-2.ensures.value,
      c.deref-3.ensures.value,
      c.in_ok-nets.ensures,
      costs_by_net rows c.requires,
    )
    (append_assoc (map resource.Net (nets_of rows)) (filter_map cost_declared rows) (map resource.Prop (nets_of rows)))
