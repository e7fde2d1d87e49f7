-- The first of the operations that are left is the first of all.
use Rattle.std.proofs.Common.{◌≡◌, drop}
use Rattle.std.specs.List.{find}
use Rattle.edit_forms.specs.Operations.{operation_name, same_text}
use Rattle.edit_forms.proofs.operation.first_named.Given as goal

abbrev pub invariant-loop-operation : goal.invariant-loop-operation
invariant-loop-operation l =
    find (λ operation. same_text (operation_name operation) l.text) (drop l.operation-index l.operations)
    ≡ find (λ operation. same_text (operation_name operation) l.text) l.operations
