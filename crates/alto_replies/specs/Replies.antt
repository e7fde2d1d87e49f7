-- The replies that don't depend on a document: refusals and receipts.
use Rattle.std.specs.Prelude.{ℕ, List, [], ◌∷◌, Option, Some, None, Result, Ok, Err, codes}
use Rattle.serde_json.specs.Data.{Data, number, unsigned, string}
use Rattle.serde_json.specs.Written.{compact_text}
use Rattle.json_tree.specs.Document.{object_of}
use Rattle.alto_http.specs.declared.request.Verb.{Verb}
use Rattle.alto_edits.specs.Text.{name_of}
use Rattle.alto_book.specs.declared.command.Receipt.{Receipt}
use Rattle.alto_book.specs.declared.fault.EditFault.{EditFault}
use Rattle.alto_book.specs.declared.fault.EditFault.TheVariants as fault
use Rattle.edit_forms.specs.declared.fault.FormFault.{FormFault}
use Rattle.edit_forms.specs.declared.fault.FormFault.TheVariants as form
use Rattle.alto_http.specs.declared.fault.HeadFault.{HeadFault}
use Rattle.alto_http.specs.declared.fault.HeadFault.TheVariants as head
use Rattle.alto_replies.specs.Reply.{ReplyData}

-- the media type of JSON that isn't ALTO's
abbrev pub json_type : List ℕ
json_type = codes "application/json"

-- a whole number
abbrev pub whole : ℕ → Data
whole n = number (unsigned n)

-- a reply with a body of this media type
abbrev pub ok_reply : List ℕ → List ℕ → ReplyData
ok_reply media_type body = record {
  status = 200;
  content_type = media_type;
  allow = None;
  body = body;
}

-- a reply with a document
abbrev pub document_reply : List ℕ → Data → ReplyData
document_reply media_type document = ok_reply media_type (compact_text document)

-- a refusal with an object of JSON
abbrev pub refusal : ℕ → List (List ℕ × Data) → ReplyData
refusal status members = record {
  status = status;
  content_type = json_type;
  allow = None;
  body = compact_text (object_of members);
}

-- a refusal that tells its status alone
abbrev pub status_alone : ℕ → ReplyData
status_alone status = refusal status ((codes "status", whole status) ∷ [])

-- nothing is here: no route, no resource
abbrev pub not_found : List ℕ → ReplyData
not_found why = refusal 404 ((codes "status", whole 404) ∷ (codes "why", string why) ∷ [])

-- the target has another method, and allows this one
abbrev pub wrong_method : Verb → ReplyData
wrong_method allowed = record (status_alone 405) { allow = Some allowed }

-- the body of an import doesn't read: at this row and column, 0 for a number that the fault doesn't have
abbrev pub bad_form : ℕ → ℕ → ReplyData
bad_form row column =
    refusal 400 ((codes "column", whole column) ∷ (codes "row", whole row) ∷ (codes "status", whole 400) ∷ [])

-- why the body of an import doesn't read; out of memory has no reply of its own
abbrev pub form_reply : FormFault → ReplyData
form_reply form.Syntax = bad_form 0 0
form_reply form.Empty = bad_form 0 0
form_reply (form.BadRecord row) = bad_form row 0
form_reply (form.BadColumn row column) = bad_form row column
form_reply form.Memory = bad_form 0 0

-- an edge from or to a number that is kept no more: the client learns the first that is
abbrev pub gone : ℕ → ReplyData
gone first = refusal 410 ((codes "start-seq", whole first) ∷ (codes "status", whole 410) ∷ [])

-- an edge that leads past the last number: the client learns it
abbrev pub too_early : ℕ → ReplyData
too_early last = refusal 425 ((codes "end-seq", whole last) ∷ (codes "status", whole 425) ∷ [])

-- an accepted import
abbrev pub receipt_reply : Receipt → ReplyData
receipt_reply receipt =
    document_reply json_type (object_of ((codes "moment", whole receipt.moment) ∷ (codes "n", whole receipt.n) ∷ []))

-- an import that isn't accepted, or whose batch couldn't be kept; out of memory has no reply of its own
abbrev pub fault_reply : EditFault → ReplyData
fault_reply (fault.OtherBody n) = refusal 409 ((codes "n", whole n) ∷ (codes "status", whole 409) ∷ [])
fault_reply (fault.Broken row broken) =
    refusal 422 ((codes "row", whole row) ∷ (codes "rule", string (name_of broken)) ∷ (codes "status", whole 422) ∷ [])
fault_reply fault.Keeper = status_alone 503
fault_reply fault.Memory = status_alone 503

-- what an import is answered
abbrev pub edit_reply : Result Receipt EditFault → ReplyData
edit_reply (Ok receipt) = receipt_reply receipt
edit_reply (Err why) = fault_reply why

-- the status that refuses a head, where the fault has one
abbrev pub head_status : HeadFault → Option ℕ
head_status head.TooLarge = Some 431
head_status head.BadHead = Some 400
head_status head.Coded = Some 501
head_status head.NoLength = Some 411
head_status head.BodyTooLarge = Some 413
head_status head.Cut = None
head_status head.ReadFault = None
head_status head.Memory = None
