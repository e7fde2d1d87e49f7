use Rattle.std.proofs.Common.{take}
use Rattle.json_tree.specs.Tree.{items_data}
use Rattle.json_patch.specs.OperationList.{ItemsSay}
use Rattle.json_patch.specs.Operations.{operations_of}
use Rattle.json_patch.proofs.operations.reading.read_ops.Given as goal

-- the items so far say the operations so far
abbrev pub invariant-loop-k : goal.invariant-loop-k
invariant-loop-k l = ItemsSay (items_data (take l.k l.items)) (operations_of l.ops.items)
