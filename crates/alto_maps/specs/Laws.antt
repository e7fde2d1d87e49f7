-- What holds of both forms, for every kind of map: the statements of the laws.
use Rattle.std.specs.Prelude.{◌≡◌, List, [], false, Ok, filter}
use Rattle.std.specs.List.{list_any}
use Rattle.json_tree.specs.Document.{object_of}
use Rattle.json_patch.specs.Merge.{merge_patched}
use Rattle.json_patch.specs.Operations.{operations_applied}
use Rattle.alto_maps.specs.Shape.{Shape, Face, document}
use Rattle.alto_maps.specs.Places.{touches_map}
use Rattle.alto_maps.specs.MergeForm.{merge_form}
use Rattle.alto_maps.specs.OperationForm.{operation_form}
use Rattle.alto_maps.specs.Differ.{DifferAt}
use Rattle.alto_maps.specs.declared.place.Place.{Place}

-- between maps that differ at some places alone, the merge form of these places leads from map to map
abbrev pub MergeLeadsOn : Type 0
MergeLeadsOn = (shape : Shape) (before after : Face) (places : List Place) → DifferAt shape places before after
    → merge_patched (document shape before) (merge_form shape after places) ≡ document shape after

-- and so do the operations, each of which finds its target
abbrev pub OperationsLeadOn : Type 0
OperationsLeadOn = (shape : Shape) (before after : Face) (places : List Place) → DifferAt shape places before after
    → operations_applied (operation_form shape before after places) (document shape before) ≡ Ok (document shape after)

-- places that touch nothing don't count
abbrev pub OnlyTouchingPlacesCount : Type 0
OnlyTouchingPlacesCount = (shape : Shape) (before after : Face) (places : List Place)
    → (merge_form shape after (filter touches_map places) ≡ merge_form shape after places)
    × (operation_form shape before after (filter touches_map places) ≡ operation_form shape before after places)

-- where nothing is touched, the merge form has no member, and there is no operation
abbrev pub UntouchedIsEmpty : Type 0
UntouchedIsEmpty = (shape : Shape) (before after : Face) (places : List Place) → list_any touches_map places ≡ false
    → (merge_form shape after places ≡ object_of []) × (operation_form shape before after places ≡ [])
