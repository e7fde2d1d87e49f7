-- What comes of an edge: the bodies in which it is made, and whether a client that applies them comes to the document.
use Rattle.std.specs.Prelude.{ℕ, ◌==◌, Bool, false, List, [], ◌∷◌, ◌++◌, map, Option, Some, None, option_map}
use Rattle.std.specs.Prelude.{option_and_then, if◌then◌else◌, bytes_eq}
use Rattle.std.specs.List.{flat_map, list_all}
use Rattle.std.specs.Result.{result_ok}
use Rattle.serde_json.specs.Data.{Data}
use Rattle.serde_json.specs.Written.{compact_text}
use Rattle.json_tree.specs.Whole.{whole_value}
use Rattle.json_patch.specs.Merge.{merge_patched}
use Rattle.json_patch.specs.Operations.{Operation, operations_applied}
use Rattle.alto_rows.specs.declared.resource.Resource.{Resource}
use Rattle.edge_patch.specs.declared.form.PatchForm.TheVariants as form
use Rattle.alto_book.specs.Book.{Book}
use Rattle.alto_book.specs.Walks.{Content, content_data, document, document_at, edge_content, merge_patch, operations}
use Rattle.alto_drill.specs.Edges.{edges_of}

-- the value that is read of a value's text, if it is one of JSON
abbrev pub read_back : Data → Option Data
read_back value = result_ok (whole_value (compact_text value))

-- what a client comes to by a merge patch (RFC 7396), and by operations (RFC 6902), from the document that it has read
abbrev pub reached_by_merge : Data → (held : Option Data) → Option Data
reached_by_merge change held = option_map (λ d. merge_patched d change) held

abbrev pub reached_by_operations : List Operation → (held : Option Data) → Option Data
reached_by_operations changes held = option_and_then (λ d. result_ok (operations_applied changes d)) held

-- what a client comes to that reads the document before and applies the body of an edge
unfoldable pub reached : Data → Content → Option Data
reached before (document whole) = read_back whole
reached before (merge_patch change) = reached_by_merge change (read_back before)
reached before (operations changes) = reached_by_operations changes (read_back before)

-- it has come to the document of this text
abbrev pub has_text : List ℕ → Option Data → Bool
has_text text None = false
has_text text (Some value) = bytes_eq (compact_text value) text

-- the text of a body
abbrev pub body_text : Content → List ℕ
body_text content = compact_text (content_data content)

-- what an edge holds: from 0 a whole document, else a merge patch and then operations
unfoldable pub contents_of : Book → Resource → ℕ × ℕ → List Content
contents_of book of edge =
    if edge.0 == 0 then document (document_at book of edge.1) ∷ []
    else edge_content book of form.Merge edge.0 edge.1 ∷ edge_content book of form.Operations edge.0 edge.1 ∷ []

-- the texts of its bodies, one after another
unfoldable pub edge_text : Book → Resource → ℕ × ℕ → List ℕ
edge_text book of edge = flat_map body_text (contents_of book of edge)

-- each of these bodies leads from one document to another
unfoldable pub all_lead : Data → Data → List Content → Bool
all_lead before later contents =
    list_all (λ content. has_text (compact_text later) (reached before content)) contents

-- an edge leads from the document at its beginning to the document at its end
unfoldable pub leads_on : Book → Resource → ℕ × ℕ → Bool
leads_on book of edge =
    all_lead (document_at book of edge.0) (document_at book of edge.1) (contents_of book of edge)

-- the texts of bodies that were made, and for each edge whether it leads on
pub record TrialData : Type 0 where
  pub bodies : List ℕ
  pub leads : List Bool

-- with the trial of one edge more, which has these bodies
unfoldable pub with_contents : Data → Data → List Content → TrialData → TrialData
with_contents before later contents trials = record {
  bodies = trials.bodies ++ flat_map body_text contents;
  leads = trials.leads ++ all_lead before later contents ∷ [];
}

-- with the trials of these edges of a resource more
unfoldable pub with_edges : Book → Resource → List (ℕ × ℕ) → TrialData → TrialData
with_edges book of edges trials = record {
  bodies = trials.bodies ++ flat_map (edge_text book of) edges;
  leads = trials.leads ++ map (leads_on book of) edges;
}

-- with those of all its available edges more
unfoldable pub with_resource : Book → Resource → TrialData → TrialData
with_resource book of trials = with_edges book of (edges_of book of) trials
