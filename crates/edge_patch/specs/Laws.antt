-- What holds of both forms of an edge: the statements of the laws.
use Rattle.std.specs.Prelude.{◌≡◌, List, [], false, filter, Ok}
use Rattle.std.specs.List.{list_any}
use Rattle.json_tree.specs.Document.{object_of}
use Rattle.json_patch.specs.Merge.{merge_patched}
use Rattle.json_patch.specs.Operations.{operations_applied}
use Rattle.alto_rows.specs.declared.key.Key.{Key}
use Rattle.alto_rows.specs.declared.resource.Resource.{Resource}
use Rattle.alto_rows.specs.Rows.{Rows}
use Rattle.alto_rows.specs.Touches.{touches}
use Rattle.net_docs.specs.Differ.{DifferBy}
use Rattle.edge_patch.specs.Documents.{document}
use Rattle.edge_patch.specs.Merge.{merge_form}
use Rattle.edge_patch.specs.OperationForm.{operation_form}

-- of the keys only those that touch the resource count
abbrev pub OnlyTouchingKeysCount : Type 0
OnlyTouchingKeysCount = (of : Resource) (before later : Rows) (keys : List Key)
    → (merge_form of later keys ≡ merge_form of later (filter (touches of) keys))
    × (operation_form of before later keys ≡ operation_form of before later (filter (touches of) keys))

-- where no key touches the resource, the merge form is the object without members, and there is no operation
abbrev pub UntouchedIsEmpty : Type 0
UntouchedIsEmpty = (of : Resource) (before later : Rows) (keys : List Key) → list_any (touches of) keys ≡ false
    → (merge_form of later keys ≡ object_of []) × (operation_form of before later keys ≡ [])

-- between good rows that differ by keys alone, the merge form of the keys leads from document to document
abbrev pub StepsLeadOn : Type 0
StepsLeadOn = (of : Resource) (before later : Rows) (keys : List Key) → DifferBy keys before later of
    → merge_patched (document of before) (merge_form of later keys) ≡ document of later

-- and so do the operations, each of which finds its target
abbrev pub OperationsLeadOn : Type 0
OperationsLeadOn = (of : Resource) (before later : Rows) (keys : List Key) → DifferBy keys before later of
    → operations_applied (operation_form of before later keys) (document of before) ≡ Ok (document of later)
