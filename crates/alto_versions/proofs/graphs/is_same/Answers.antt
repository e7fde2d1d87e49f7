use Rattle.std.proofs.Common.{rules}
use Rattle.alto_rows.proofs.OrderLemmas.{derived_resource_cmp}
use Rattle.alto_versions.proofs.graphs.is_same.Goals as goal

pub returns : goal.returns
returns c = search (rules, derived_resource_cmp)
