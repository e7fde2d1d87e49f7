use Rattle.std.proofs.Common.{◌≡◌, drop}
use Rattle.path_docs.specs.Found.{with_names}
use Rattle.path_docs.proofs.properties.with_names.Given as goal

abbrev pub invariant-loop-name : goal.invariant-loop-name
invariant-loop-name l = with_names l.anes.keys (drop l.name-index l.names) ≡ with_names l.fn.set.keys l.names
