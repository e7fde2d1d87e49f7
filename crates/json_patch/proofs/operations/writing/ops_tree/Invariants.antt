use Rattle.std.proofs.Common.{◌≡◌, map, take}
use Rattle.json_tree.specs.Tree.{data_of}
use Rattle.json_patch.specs.OperationList.{operation_data}
use Rattle.json_patch.specs.Operations.{operations_of}
use Rattle.json_patch.proofs.operations.writing.ops_tree.Given as goal

abbrev pub invariant-loop-op : goal.invariant-loop-op
invariant-loop-op l = map data_of l.trees.items ≡ map operation_data (operations_of (take l.op-index l.ops))
