use Rattle.std.proofs.Common.{map}
use Rattle.alto_directory.specs.Entry.{shown}
use Rattle.alto_directory.proofs.EntryLemmas.{four_joined}
use Rattle.alto_directory.proofs.entries.push_parts.Goals as goal

pub returns : goal.returns
returns c =
    rw (
      c.in_ok-push_cost_queries.ensures,
      c.in_ok-push_cost_maps.ensures,
      c.in_ok-push_property_maps.ensures,
      c.in_ok-push_maps.ensures,
    )
    (four_joined (map shown c.args.entries.now.items) _ _ _ _)
