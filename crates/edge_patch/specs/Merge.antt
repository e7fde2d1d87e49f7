-- What leads to a version of a document from one that differs at some keys, as a merge patch (RFC 7396): what an edge
-- between two versions holds (RFC 9569, section 3).
use Rattle.std.specs.Prelude.{List, map}
use Rattle.serde_json.specs.Data.{Data}
use Rattle.alto_rows.specs.declared.key.Key.{Key}
use Rattle.alto_rows.specs.declared.resource.Resource.{Resource}
use Rattle.alto_rows.specs.Rows.{Rows}
use Rattle.alto_maps.specs.MergeForm as maps
use Rattle.edge_patch.specs.Documents.{face_of, place_of, shape_of}

-- the merge patch
abbrev pub merge_form : Resource → Rows → List Key → Data
merge_form of rows keys = maps.merge_form (shape_of of) (face_of of rows) (map (place_of of) keys)
