-- What a request comes to at a version: first its route, then its method, its content type, the resource, the body.
use Rattle.std.specs.Prelude.{◌≡◌, ℕ, List, Option, Some, None, Result, Ok, Err, codes, All}
use Rattle.sha2.specs.Sha256.{sha256}
use Rattle.alto_names.specs.declared.label.NameFault.{NameFault}
use Rattle.alto_names.specs.Name.{named, is_import_byte}
use Rattle.alto_rows.specs.declared.resource.Resource.{Resource}
use Rattle.alto_rows.specs.Ids.{resource_named}
use Rattle.alto_rows.specs.Rows.{Rows}
use Rattle.alto_addr.specs.declared.addr.Addr.{Addr}
use Rattle.alto_book.specs.Book.{Book, number_of, rows_of}
use Rattle.alto_edits.specs.declared.edit.Edit.{Edit}
use Rattle.alto_edits.specs.Edits.{IsEdit}
use Rattle.alto_directory.specs.Directory.{directory}
use Rattle.edge_patch.specs.Documents.{document}
use Rattle.edit_forms.specs.declared.fault.FormFault.{FormFault}
use Rattle.alto_http.specs.Request.{RequestData}
use Rattle.alto_http.specs.declared.request.Verb.{Verb}
use Rattle.alto_http.specs.declared.request.Verb.TheVariants as verb
use Rattle.alto_answers.specs.declared.outcome.Answer.{Answer}
use Rattle.alto_answers.specs.declared.outcome.Answer.TheVariants as answer
use Rattle.alto_answers.specs.declared.route.Place.{Place}
use Rattle.alto_answers.specs.declared.route.Place.TheVariants as place
use Rattle.alto_answers.specs.declared.client.Client.{Client}
use Rattle.alto_answers.specs.declared.route.Side.{Side}
use Rattle.alto_replies.specs.Reply.{ReplyData, IsReply}
use Rattle.alto_replies.specs.Replies.{document_reply, status_alone, not_found, wrong_method, bad_form, form_reply}
use Rattle.alto_answers.specs.Routes.{place_of}
use Rattle.alto_answers.specs.Target.{path_of, segment}
use Rattle.alto_answers.specs.Tips.{tips_answer}
use Rattle.alto_answers.specs.Types.{directory_type, media_type_of}
use Rattle.alto_answers.specs.Accept.{patch_form}
use Rattle.alto_answers.specs.Edges.{edges_answer}
use Rattle.alto_answers.specs.Forms.{form_of}
use Rattle.alto_answers.specs.Lookup.{LookupAnswer}
use Rattle.alto_answers.specs.Queries.{QueryAnswer, Seen, net_segment}
use Rattle.edit_forms.specs.declared.form.Form.{Form}
use Rattle.edit_forms.specs.Forms.{FormReads}

-- the document of the resource that a text names, if it names one
abbrev pub map_reply : Rows → Option Resource → ReplyData
map_reply rows (Some of) = document_reply (media_type_of of) (document of rows)
map_reply rows None = not_found (codes "resource")

-- `/maps/{resource}`: the document of a resource
abbrev pub maps_answer : Verb → Rows → List ℕ → Answer
maps_answer verb.Get rows text = answer.Reply (map_reply rows (resource_named rows text))
maps_answer verb.Post rows text = answer.Reply (wrong_method verb.Get)
maps_answer verb.Other rows text = answer.Reply (wrong_method verb.Get)

-- `/directory`: what there is to ask for
abbrev pub directory_answer : Verb → Rows → Answer
directory_answer verb.Get rows = answer.Reply (document_reply directory_type (directory rows))
directory_answer verb.Post rows = answer.Reply (wrong_method verb.Get)
directory_answer verb.Other rows = answer.Reply (wrong_method verb.Get)

-- the import of a body, or the fault of its form
abbrev pub import_of : List ℕ → List ℕ → Result (List Edit) FormFault → Answer
import_of id digest (Ok edits) = answer.Edit (record { id = id; digest = digest; edits = edits })
import_of id digest (Err fault) = answer.Reply (form_reply fault)

-- what an import under an id, if it is one, comes to, whose body is in a form: that of what the body reads as
abbrev pub ImportAnswers : Result (List ℕ) NameFault → Form → List ℕ → Answer → Type 0
ImportAnswers (Ok id) form body given =
    (read : Result (List Edit) FormFault) × FormReads form body read × (given ≡ import_of id (sha256 body) read)
ImportAnswers (Err fault) form body given = given ≡ answer.Reply (bad_form 0 0)

-- what an import comes to, whose body is in a form, if its content type names one
abbrev pub PostedImport : Option Form → Result (List ℕ) NameFault → List ℕ → Answer → Type 0
PostedImport None id body given = given ≡ answer.Reply (status_alone 415)
PostedImport (Some form) id body given = ImportAnswers id form body given

-- `/edits/{id}`: an import
abbrev pub EditsAnswer : Verb → Option (List ℕ) → List ℕ → List ℕ → Answer → Type 0
EditsAnswer verb.Post content_type id body given =
    PostedImport (form_of content_type) (named is_import_byte 64 id) body given
EditsAnswer verb.Get content_type id body given = given ≡ answer.Reply (wrong_method verb.Post)
EditsAnswer verb.Other content_type id body given = given ≡ answer.Reply (wrong_method verb.Post)

-- a client that asks at a side, from this address, where it is known
abbrev pub client_of : Side → Option Addr → Client
client_of side peer = record { routes = side; peer = peer }

-- what a query of a client at a book is answered from
abbrev pub seen_at : Book → Option Addr → Seen
seen_at book peer = record { rows = rows_of book; number = number_of book; peer = peer }

-- what a request comes to at the place where its path leads
abbrev pub PlaceAnswers : Option Place → RequestData → Book → Option Addr → Answer → Type 0
PlaceAnswers None request book peer given = given ≡ answer.Reply (not_found (codes "route"))
PlaceAnswers (Some place.Maps) request book peer given =
    given ≡ maps_answer request.verb (rows_of book) (segment (path_of request.target) 2)
PlaceAnswers (Some place.Directory) request book peer given = given ≡ directory_answer request.verb (rows_of book)
PlaceAnswers (Some place.Lookup) request book peer given =
    let path = path_of request.target in
    LookupAnswer request.verb (rows_of book) (segment path 2) (segment path 3) given
PlaceAnswers (Some (place.Query of)) request book peer given =
    let text = segment (path_of request.target) (net_segment of) in
    QueryAnswer of request.verb request.content_type (seen_at book peer) text request.body given
PlaceAnswers (Some place.Tips) request book peer given =
    given ≡ tips_answer request.verb request.content_type book request.host request.body
PlaceAnswers (Some place.Edge) request book peer given =
    let path = path_of request.target in
    given
    ≡ edges_answer request.verb book (patch_form request.accept) (segment path 2) (segment path 4) (segment path 5)
PlaceAnswers (Some place.Edits) request book peer given =
    EditsAnswer request.verb request.content_type (segment (path_of request.target) 2) request.body given

-- the request of this client is answered so at the book
unfoldable pub AnswersTo : RequestData → Book → Client → Answer → Type 0
AnswersTo request book client given =
    PlaceAnswers (place_of client.routes (path_of request.target)) request book client.peer given

-- an answer that is a reply has bytes
abbrev pub HasBytes : Answer → Type 0
HasBytes (answer.Reply reply) = IsReply reply
HasBytes (answer.Hold of i j) = Unit {0}
HasBytes (answer.Edit import) = Unit {0}

-- the import that an answer brings has edits whose fields are in the ranges of their columns
abbrev pub BringsEdits : Answer → Type 0
BringsEdits (answer.Reply reply) = Unit {0}
BringsEdits (answer.Hold of i j) = Unit {0}
BringsEdits (answer.Edit import) = All IsEdit import.edits
