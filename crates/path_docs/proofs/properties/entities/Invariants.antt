use Rattle.std.proofs.Common.{◌≡◌, drop, map}
use Rattle.serde_json.specs.Data.{Data}
use Rattle.json_tree.specs.Document.{members_of}
use Rattle.json_tree.specs.Members.{members_data}
use Rattle.alto_maps.specs.Shape.{Name}
use Rattle.path_docs.specs.PathProperties.{ane_entity, ane_properties}
use Rattle.path_docs.proofs.ValuedLemmas.{with_members}
use Rattle.path_docs.proofs.properties.entities.Given as goal

abbrev pub invariant-loop-ane : goal.invariant-loop-ane
invariant-loop-ane g l =
    let entity : Name → Name × Data =
    λ ane. (ane_entity ane, ane_properties (g.R.RowStore.rows l.rows) l.net l.bandwidth ane) in
    with_members (members_data l.entities) (map entity (drop l.ane-index l.anes)) ≡ members_of (map entity l.anes)
