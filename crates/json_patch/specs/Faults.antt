-- The texts of faults, as they are printed.
use Rattle.std.specs.Prelude.{ℕ, List, ◌++◌, codes, decimal}
use Rattle.json_patch.specs.declared.operations.ops_fault.OpsFault.{OpsFault}
use Rattle.json_patch.specs.declared.operations.ops_fault.OpsFault.TheVariants as ops
use Rattle.json_patch.specs.declared.operations.patch_fault.PatchFault.{PatchFault}
use Rattle.json_patch.specs.declared.operations.patch_fault.PatchFault.TheVariants as patch

-- why operations aren't applied
abbrev pub patch_fault_text : PatchFault → List ℕ
patch_fault_text (patch.NoParent k) = codes "operation " ++ decimal k ++ codes " adds where no object is"
patch_fault_text (patch.NoTarget k) = codes "operation " ++ decimal k ++ codes " has no target"
patch_fault_text patch.Memory = codes "out of memory"

-- why a document gives no operations
abbrev pub ops_fault_text : OpsFault → List ℕ
ops_fault_text (ops.BadOp k) = codes "no JSON Patch: item " ++ decimal k ++ codes " is no operation"
ops_fault_text ops.Memory = codes "out of memory"
