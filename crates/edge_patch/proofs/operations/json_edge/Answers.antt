use Rattle.std.proofs.Common.{rules}
use Rattle.edge_patch.proofs.operations.json_edge.Goals as goal

pub returns-in_ok-places-in-Net : goal.returns-in_ok-places-in-Net
returns-in_ok-places-in-Net g c = rw (c.in-Net.is, ← c.in_ok-places-in-Net.ensures) (search rules)

pub returns-in_ok-places-in-Cost : goal.returns-in_ok-places-in-Cost
returns-in_ok-places-in-Cost g c = rw (c.in-Cost.is, ← c.in_ok-places-in-Cost.ensures) (search rules)

pub returns-in_ok-places-in-Prop : goal.returns-in_ok-places-in-Prop
returns-in_ok-places-in-Prop g c = rw (c.in-Prop.is, ← c.in_ok-places-in-Prop.ensures) (search rules)
