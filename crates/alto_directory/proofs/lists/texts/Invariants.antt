use Rattle.std.proofs.Common.{◌≡◌, map, take}
use Rattle.serde_json.specs.Data.{string}
use Rattle.json_tree.specs.Tree.{data_of}
use Rattle.alto_directory.proofs.lists.texts.Given as goal

abbrev pub invariant-loop-name : goal.invariant-loop-name
invariant-loop-name l = map data_of l.trees.items ≡ map string (take l.name-index l.names)
