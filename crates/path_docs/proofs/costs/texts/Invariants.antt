use Rattle.std.proofs.Common.{◌≡◌, ◌++◌, drop, map}
use Rattle.serde_json.specs.Data.{string}
use Rattle.json_tree.specs.Tree.{data_of}
use Rattle.path_docs.proofs.costs.texts.Given as goal

abbrev pub invariant-loop-name : goal.invariant-loop-name
invariant-loop-name l = map data_of l.trees.items ++ map string (drop l.name-index l.names) ≡ map string l.names
