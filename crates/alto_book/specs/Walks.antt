-- Walks along edges of updates graphs (RFC 9569, section 3): what a client holds that applies them in turn.
use Rattle.std.specs.Prelude.{◌≡◌, ℕ, true, ◌==◌, List, [], ◌∷◌, Result, Ok, if◌then◌else◌}
use Rattle.serde_json.specs.Data.{Data}
use Rattle.json_patch.specs.Merge.{merge_patched}
use Rattle.json_patch.specs.OperationList.{operations_data}
use Rattle.json_patch.specs.Operations.{Operation, and_then, operations_applied}
use Rattle.json_patch.specs.declared.operations.patch_fault.PatchFault.{PatchFault}
use Rattle.alto_rows.specs.declared.key.Key.{Key}
use Rattle.alto_rows.specs.declared.resource.Resource.{Resource}
use Rattle.alto_rows.specs.Rows.{Rows}
use Rattle.alto_rows.specs.Versions.{is_declared}
use Rattle.tips_graph.specs.declared.status.EdgeStatus.TheVariants.{Here}
use Rattle.edge_patch.specs.Documents as documents
use Rattle.edge_patch.specs.Merge.{merge_form}
use Rattle.edge_patch.specs.OperationForm.{operation_form}
use Rattle.edge_patch.specs.declared.form.PatchForm.{PatchForm}
use Rattle.edge_patch.specs.declared.form.PatchForm.TheVariants as form
use Rattle.alto_book.specs.Book.{Book, Extends, rows_of}
use Rattle.alto_book.specs.Numbers.{rows_at, keys_between, status_at}

-- the document of a resource at one of its numbers
abbrev pub document_at : Book → Resource → ℕ → Data
document_at book of number = documents.document of (rows_at book of number)

-- what an edge holds: a whole document, a merge patch (RFC 7396), or operations (RFC 6902)
pub data Content : Type 0 where
  document merge_patch : Data → Content
  operations : List Operation → Content

-- its value as JSON
abbrev pub content_data : Content → Data
content_data (document whole) = whole
content_data (merge_patch change) = change
content_data (operations changes) = operations_data changes

-- the patch between rows that differ at keys, in a form
abbrev pub patch : PatchForm → Resource → Rows → Rows → List Key → Content
patch form.Merge of before later keys = merge_patch (merge_form of later keys)
patch form.Operations of before later keys = operations (operation_form of before later keys)

-- what an edge holds: from 0 the document at its end, else the patch that leads there
abbrev pub edge_content : Book → Resource → PatchForm → ℕ → ℕ → Content
edge_content book of form i j =
    if i == 0 then document (document_at book of j)
    else patch form of (rows_at book of i) (rows_at book of j) (keys_between book of i j)

-- an edge with what it was answered with
pub record Edge : Type 0 where
  pub i : ℕ
  pub j : ℕ
  pub form : PatchForm
  pub content : Content

-- what a client holds after an edge: the whole document from 0, else what it held, patched
abbrev pub held_after : Data → Content → Result Data PatchFault
held_after held (document whole) = Ok whole
held_after held (merge_patch change) = Ok (merge_patched held change)
held_after held (operations changes) = operations_applied changes held

-- what a client holds after edges in turn
abbrev pub followed : Data → List Edge → Result Data PatchFault
followed held [] = Ok held
followed held (edge ∷ edges) = and_then (λ next. followed next edges) (held_after held edge.content)

-- a declared resource's edge was answered at a book that this one extends, where it could be had
pub record IsAnswered (book : Book) (of : Resource) (edge : Edge) : Type 0 where
  pub look : Book
  pub extends : Extends book look
  pub declared : is_declared (rows_of look) of ≡ true
  pub here : status_at look of edge.i edge.j ≡ Here
  pub content : edge.content ≡ edge_content look of edge.form edge.i edge.j

-- the edges lead from one number to another: each was answered, and begins where the one before ended
abbrev pub IsWalk : Book → Resource → ℕ → List Edge → ℕ → Type 0
IsWalk book of from [] at = from ≡ at
IsWalk book of from (edge ∷ edges) at = (edge.i ≡ from) × IsAnswered book of edge × IsWalk book of edge.j edges at
