-- What leads to a version of a document from one that differs at some keys, as operations (RFC 6902).
use Rattle.std.specs.Prelude.{List, map}
use Rattle.json_patch.specs.Operations.{Operation}
use Rattle.alto_rows.specs.declared.key.Key.{Key}
use Rattle.alto_rows.specs.declared.resource.Resource.{Resource}
use Rattle.alto_rows.specs.Rows.{Rows}
use Rattle.alto_maps.specs.OperationForm as maps
use Rattle.edge_patch.specs.Documents.{face_of, place_of, shape_of}

-- the operations
abbrev pub operation_form : Resource → Rows → Rows → List Key → List Operation
operation_form of before later keys =
    maps.operation_form (shape_of of) (face_of of before) (face_of of later) (map (place_of of) keys)
