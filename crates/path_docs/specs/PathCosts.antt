-- The first part of an answer (RFC 9275, section 7.2.6): the cost map whose costs are the ANEs on the paths of pairs.
use Rattle.std.specs.Prelude.{ℕ, List, [], ◌∷◌, ◌++◌, Bool, true, false, ◌&&◌, Option, Some, None, is_some, filter, map}
use Rattle.std.specs.Prelude.{codes, decimal, unwrap_or}
use Rattle.serde_json.specs.Data.{Data, string}
use Rattle.json_tree.specs.Document.{array_of, object_of}
use Rattle.alto_rows.specs.declared.key.Key.TheVariants as key
use Rattle.alto_rows.specs.declared.value.Value.{Value}
use Rattle.alto_rows.specs.declared.value.Value.TheVariants as value
use Rattle.alto_rows.specs.Rows.{Rows, value_of}
use Rattle.alto_rows.specs.Versions.{epoch_of}
use Rattle.alto_maps.specs.Shape.{Name, Shape, Face, document}
use Rattle.net_docs.specs.Filter.{is_picked}
use Rattle.net_docs.specs.NetworkMap.{dependent_tags, pids_of}
use Rattle.path_docs.specs.declared.ask.PathAsk.{PathAsk}
use Rattle.path_docs.specs.Ask.{array_mode, path_metric, type_field}

-- ---- which pairs

-- the ANEs that a row holds
abbrev pub anes_at : Option Value → Option (List Name)
anes_at (Some (value.Names anes)) = Some anes
anes_at _ = None

-- the path of a pair, in the order of its ANEs, where it has one
abbrev pub path_of : Rows → Name → Name → Name → Option (List Name)
path_of rows net src dst = anes_at (value_of rows (key.Path net src dst))

-- the ANEs on it
abbrev pub anes_of : Rows → Name → Name → Name → List Name
anes_of rows net src dst = unwrap_or (path_of rows net src dst) []

-- the PIDs to which a source is shown: those that are asked for and to which it has a path
abbrev pub dsts_shown : Rows → Name → PathAsk → Name → List Name
dsts_shown rows net ask src =
    filter (λ dst. is_picked ask.dsts dst && is_some (path_of rows net src dst)) (pids_of rows net)

-- there is a name
abbrev pub has_name : List Name → Bool
has_name [] = false
has_name (name ∷ names) = true

-- the sources: PIDs that are asked for and are shown to some other
abbrev pub srcs_shown : Rows → Name → PathAsk → List Name
srcs_shown rows net ask =
    filter (λ src. is_picked ask.srcs src && has_name (dsts_shown rows net ask src)) (pids_of rows net)

-- ---- what is shown of them

-- names as JSON
abbrev pub names_data : List Name → Data
names_data names = array_of (map string names)

-- the cost type of path vectors (section 6.5)
abbrev pub path_type_data : Data
path_type_data =
    object_of ((codes "cost-metric", string path_metric) ∷ (codes "cost-mode", string array_mode) ∷ [])

-- the version tag of the first part (section 6.6): its resource id is that of the path vectors with its own name, and
-- its tag tells how many batches had been accepted
abbrev pub path_tag : Rows → Name → ℕ → Data
path_tag rows net n =
    object_of
    ((codes "resource-id", string (net ++ codes ":path.costmap"))
    ∷ (codes "tag", string (epoch_of rows ++ codes "-" ++ decimal n))
    ∷ [])

-- the meta
abbrev pub path_meta : Rows → Name → ℕ → Data
path_meta rows net n =
    object_of
    ((type_field, path_type_data)
    ∷ (codes "dependent-vtags", dependent_tags rows net)
    ∷ (codes "vtag", path_tag rows net n)
    ∷ [])

-- what the first part shows
abbrev pub path_face : Rows → Name → PathAsk → ℕ → Face
path_face rows net ask n = record {
  meta = path_meta rows net n;
  version = path_tag rows net n;
  groups = srcs_shown rows net ask;
  members = dsts_shown rows net ask;
  value = λ src dst. names_data (anes_of rows net src dst);
}

-- it is a map of this shape
abbrev pub path_shape : Shape
path_shape = record { section = codes "cost-map"; path = codes "vtag" ∷ [] }

-- the first part
abbrev pub path_costs : Rows → Name → PathAsk → ℕ → Data
path_costs rows net ask n = document path_shape (path_face rows net ask n)
