use Rattle.std.proofs.Common.{◌≡◌, drop}
use Rattle.json_tree.specs.Tree.{data_of}
use Rattle.json_patch.specs.Operations.{applied_from, operations_applied, operations_of}
use Rattle.json_patch.proofs.operations.applying.apply.Given as goal

-- what is left makes of the tree so far what all operations make of the target
abbrev pub invariant-loop-k : goal.invariant-loop-k
invariant-loop-k l = applied_from l.k (operations_of (drop l.k l.ops)) (data_of l.tree)
    ≡ operations_applied (operations_of l.ops) (data_of l.fn.target)
