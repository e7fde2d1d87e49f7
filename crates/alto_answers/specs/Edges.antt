-- Edges of updates graphs, asked for by their numbers (RFC 9569, section 7).
use Rattle.std.specs.Prelude.{ℕ, Bool, false, not, ◌&&◌, ◌==◌, nat_le, List, ◌∷◌, length, Option, Some, None}
use Rattle.std.specs.Prelude.{if◌then◌else◌, codes}
use Rattle.std.specs.Str.Parse.{digits_value}
use Rattle.alto_rows.specs.declared.resource.Resource.{Resource}
use Rattle.alto_rows.specs.Ids.{resource_named}
use Rattle.alto_rows.specs.Versions.{version_of}
use Rattle.alto_book.specs.Book.{Book, rows_of}
use Rattle.alto_book.specs.Numbers.{first_kept, status_at}
use Rattle.alto_book.specs.Walks.{Content, content_data, document, edge_content, merge_patch, operations}
use Rattle.alto_http.specs.declared.request.Verb.{Verb}
use Rattle.alto_http.specs.declared.request.Verb.TheVariants as verb
use Rattle.alto_http.specs.Fields.{is_decimal}
use Rattle.edge_patch.specs.declared.form.PatchForm.{PatchForm}
use Rattle.edge_patch.specs.declared.form.PatchForm.TheVariants as form
use Rattle.tips_graph.specs.declared.status.EdgeStatus.{EdgeStatus}
use Rattle.tips_graph.specs.declared.status.EdgeStatus.TheVariants.{Absent, Gone, Awaited, Ahead, Here}
use Rattle.alto_answers.specs.declared.outcome.Answer.{Answer}
use Rattle.alto_answers.specs.declared.outcome.Answer.TheVariants as answer
use Rattle.alto_replies.specs.Replies.{document_reply, gone, not_found, too_early, wrong_method}
use Rattle.alto_replies.specs.Reply.{ReplyData}
use Rattle.alto_answers.specs.Types.{json_patch_type, media_type_of, merge_patch_type}

-- the code of the digit 0
abbrev pub zero_digit : ℕ
zero_digit = 48

-- a 0 stands before other digits
abbrev pub has_leading_zero : List ℕ → Bool
has_leading_zero (first ∷ second ∷ more) = first == zero_digit
has_leading_zero _ = false

-- a number as a path has it: 1 to 18 decimal digits, the first of several not 0
abbrev pub is_edge_number : List ℕ → Bool
is_edge_number text = is_decimal text && nat_le (length text) 18 && not (has_leading_zero text)

-- the number that a text is
abbrev pub edge_number : List ℕ → Option ℕ
edge_number text = if is_edge_number text then Some (digits_value 10 text) else None

-- the media type of what an edge holds
abbrev pub content_type : Resource → Content → List ℕ
content_type of (document whole) = media_type_of of
content_type of (merge_patch change) = merge_patch_type
content_type of (operations changes) = json_patch_type

-- the media type of a patch in a form
abbrev pub patch_type : PatchForm → List ℕ
patch_type form.Merge = merge_patch_type
patch_type form.Operations = json_patch_type

-- the reply that holds it
abbrev pub content_reply : Resource → Content → ReplyData
content_reply of content = document_reply (content_type of content) (content_data content)

-- an edge that can be had: from 0 the document at a number, else the patch that leads to it, in a form
abbrev pub edge_reply : Book → Resource → PatchForm → ℕ → ℕ → ReplyData
edge_reply book of form i j = content_reply of (edge_content book of form i j)

-- what an edge with a status is answered
abbrev pub edge_by : EdgeStatus → Book → Resource → PatchForm → ℕ → ℕ → Answer
edge_by Absent book of form i j = answer.Reply (not_found (codes "edge"))
edge_by Gone book of form i j = answer.Reply (gone (first_kept book of))
edge_by Awaited book of form i j = answer.Hold of i j
edge_by Ahead book of form i j = answer.Reply (too_early (version_of (rows_of book) of))
edge_by Here book of form i j = answer.Reply (edge_reply book of form i j)

-- the edge of a resource between two numbers, if they are numbers
abbrev pub numbered_edge : Book → Resource → PatchForm → Option ℕ → Option ℕ → Answer
numbered_edge book of form (Some i) (Some j) = edge_by (status_at book of i j) book of form i j
numbered_edge book of form (Some i) None = answer.Reply (not_found (codes "edge"))
numbered_edge book of form None j = answer.Reply (not_found (codes "edge"))

-- the edge of the resource that a text names, if it names one
abbrev pub named_edge : Book → Option Resource → PatchForm → List ℕ → List ℕ → Answer
named_edge book (Some of) form i j = numbered_edge book of form (edge_number i) (edge_number j)
named_edge book None form i j = answer.Reply (not_found (codes "resource"))

-- `/tips/{resource}/ug/{i}/{j}`: an edge of a resource, a patch in the form that the client takes
abbrev pub edges_answer : Verb → Book → PatchForm → List ℕ → List ℕ → List ℕ → Answer
edges_answer verb.Get book form resource i j = named_edge book (resource_named (rows_of book) resource) form i j
edges_answer verb.Post book form resource i j = answer.Reply (wrong_method verb.Get)
edges_answer verb.Other book form resource i j = answer.Reply (wrong_method verb.Get)
