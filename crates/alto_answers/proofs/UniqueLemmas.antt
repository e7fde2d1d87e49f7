-- A request has one answer at most.
use Rattle.std.proofs.Common.{◌≡◌, ℕ, Bool, true, false, List, Option, Some, None, Result, Ok, Err, refl, ap, sym, ◌∙◌}
use Rattle.std.specs.Prelude.{IfSome}
use Rattle.serde_json.specs.Data.{Data}
use Rattle.sha2.specs.Sha256.{sha256}
use Rattle.alto_names.specs.declared.label.NameFault.{NameFault}
use Rattle.alto_asks.specs.Asks.{ask_of}
use Rattle.alto_asks.specs.declared.fault.AskFault.{AskFault}
use Rattle.alto_names.specs.Name.{IsNetName, named, is_import_byte, is_net_byte}
use Rattle.alto_addr.specs.declared.addr.Addr.{Addr}
use Rattle.alto_rows.specs.Rows.{Rows}
use Rattle.alto_book.specs.Book.{Book, rows_of}
use Rattle.alto_http.specs.Request.{RequestData}
use Rattle.alto_http.specs.declared.request.Verb.{Verb}
use Rattle.alto_http.specs.declared.request.Verb.TheVariants as verb
use Rattle.alto_replies.specs.Errors.{reply_or_error}
use Rattle.alto_replies.specs.Reply.{ReplyData}
use Rattle.edit_forms.proofs.UniqueLemmas.{form_once}
use Rattle.alto_answers.proofs.AskLemmas.{AtMostOne, net_named_is_name, prop_ask_once}
use Rattle.alto_answers.proofs.LookupLemmas.{one_typed_addr}
use Rattle.edit_forms.specs.declared.form.Form.{Form}
use Rattle.alto_answers.specs.declared.outcome.Answer.TheVariants as answer
use Rattle.alto_answers.specs.declared.route.Place.{Place}
use Rattle.alto_answers.specs.declared.route.Place.TheVariants as place
use Rattle.alto_answers.specs.declared.client.Client.{Client}
use Rattle.endpoint_costs.specs.Ask.{ReadsEndAsk}
use Rattle.endpoint_costs.proofs.OnceLemmas.{asks_once}
use Rattle.prop_docs.specs.Ask.{ReadsPropAsk}
use Rattle.alto_answers.specs.declared.route.Query.{Query}
use Rattle.alto_answers.specs.declared.route.Query.TheVariants as query
use Rattle.alto_answers.specs.Queries.{Asked, PostedQuery, QueryAnswer, QueryReply, Queried, Seen, body_type, net_named}
use Rattle.alto_answers.specs.Queries.{net_segment}
use Rattle.alto_answers.specs.Answers.{seen_at, AnswersTo, EditsAnswer, ImportAnswers, PlaceAnswers, PostedImport}
use Rattle.alto_answers.specs.Answers.{import_of}
use Rattle.alto_answers.specs.Forms.{form_of, has_type}
use Rattle.alto_answers.specs.Lookup.{LookupAnswer, ReadsAddr, lookup_reply, prefixes_named}
use Rattle.alto_answers.specs.Routes.{place_of}
use Rattle.alto_answers.specs.Target.{path_of, segment}

import_once : (id : Result (List ℕ) NameFault) (form : Form) (body : List ℕ) → AtMostOne (ImportAnswers id form body)
import_once (Ok id) form body = λ one other h k.
    h.2 ∙ ap (import_of id (sha256 body)) (form_once form body h.0 k.0 h.1 k.1) ∙ sym k.2
import_once (Err fault) form body = λ one other h k. h ∙ sym k

posted_once : (form : Option Form) (id : Result (List ℕ) NameFault) (body : List ℕ)
    → AtMostOne (PostedImport form id body)
posted_once None id body = λ one other h k. h ∙ sym k
posted_once (Some form) id body = import_once id form body

edits_once : (verb : Verb) (content_type : Option (List ℕ)) (id body : List ℕ)
    → AtMostOne (EditsAnswer verb content_type id body)
edits_once verb.Post content_type id body = posted_once (form_of content_type) (named is_import_byte 64 id) body
edits_once verb.Get content_type id body = λ one other h k. h ∙ sym k
edits_once verb.Other content_type id body = λ one other h k. h ∙ sym k

addr_once : (text : List ℕ) → AtMostOne (ReadsAddr text)
addr_once text (Some one) (Some other) h k = ap (λ (addr : Addr). Some addr) (one_typed_addr text one other h k)
addr_once text (Some one) None h k = absurd (k one h)
addr_once text None (Some other) h k = absurd (h other k)
addr_once text None None h k = refl

lookup_once : (verb : Verb) (rows : Rows) (net text : List ℕ) → AtMostOne (LookupAnswer verb rows net text)
lookup_once verb.Get rows net text = λ one other h k.
    h.2
    ∙ ap (λ (addr : Option Addr). answer.Reply (lookup_reply (prefixes_named rows (named is_net_byte 24 net)) addr))
    (addr_once text h.0 k.0 h.1 k.1)
    ∙ sym k.2
lookup_once verb.Post rows net text = λ one other h k. h ∙ sym k
lookup_once verb.Other rows net text = λ one other h k. h ∙ sym k

-- what is read in one way has one answer
once_from : {A B : Type 0} (Reads : A → Type 0) (answer : A → B) → AtMostOne Reads
    → AtMostOne (λ given. (read : A) × Reads read × (given ≡ answer read))
once_from Reads answer once = λ one other h k. h.2 ∙ ap answer (once h.0 k.0 h.1 k.1) ∙ sym k.2

queried_once : (of : Query) (seen : Seen) (net : List ℕ) (value : Data) → IsNetName net
    → AtMostOne (Queried of seen net value)
queried_once query.NetworkMap seen net value is_net = λ one other h k. h ∙ sym k
queried_once query.CostMap seen net value is_net = λ one other h k. h ∙ sym k
queried_once query.EndpointCosts seen net value is_net =
    once_from (ReadsEndAsk seen.rows net value) _ (asks_once seen.rows net value)
queried_once query.PropertyMap seen net value is_net =
    once_from (ReadsPropAsk net value) _ (prop_ask_once net value is_net)
queried_once query.PathVector seen net value is_net = λ one other h k. h ∙ sym k

asked_once : (of : Query) (seen : Seen) (net : List ℕ) (read : Result Data AskFault) → IsNetName net
    → AtMostOne (Asked of seen net read)
asked_once of seen net (Err why) is_net = λ one other h k. h ∙ sym k
asked_once of seen net (Ok value) is_net = queried_once of seen net value is_net

reply_once : (of : Query) (seen : Seen) (net : Option (List ℕ)) (body : List ℕ) → IfSome net IsNetName
    → AtMostOne (QueryReply of seen net body)
reply_once of seen None body is_net = λ one other h k. h ∙ sym k
reply_once of seen (Some net) body is_net =
    once_from (Asked of seen net (ask_of body)) reply_or_error (asked_once of seen net (ask_of body) is_net)

query_by : (typed : Bool) (of : Query) (seen : Seen) (text body : List ℕ)
    → AtMostOne (PostedQuery typed of seen text body)
query_by false of seen text body = λ one other h k. h ∙ sym k
query_by true of seen text body =
    once_from (QueryReply of seen (net_named seen.rows text) body) (λ (reply : ReplyData). answer.Reply reply)
    (reply_once of seen (net_named seen.rows text) body (net_named_is_name seen.rows text))

query_once : (of : Query) (verb : Verb) (content_type : Option (List ℕ)) (seen : Seen) (text body : List ℕ)
    → AtMostOne (QueryAnswer of verb content_type seen text body)
query_once of verb.Post content_type seen text body = query_by (has_type (body_type of) content_type) of seen text body
query_once of verb.Get content_type seen text body = λ one other h k. h ∙ sym k
query_once of verb.Other content_type seen text body = λ one other h k. h ∙ sym k

place_once : (at : Option Place) (request : RequestData) (book : Book) (peer : Option Addr)
    → AtMostOne (PlaceAnswers at request book peer)
place_once None request book peer = λ one other h k. h ∙ sym k
place_once (Some place.Maps) request book peer = λ one other h k. h ∙ sym k
place_once (Some place.Lookup) request book peer =
    lookup_once request.verb (rows_of book) (segment (path_of request.target) 2) (segment (path_of request.target) 3)
place_once (Some place.Directory) request book peer = λ one other h k. h ∙ sym k
place_once (Some (place.Query of)) request book peer =
    query_once of request.verb request.content_type (seen_at book peer)
    (segment (path_of request.target) (net_segment of)) request.body
place_once (Some place.Tips) request book peer = λ one other h k. h ∙ sym k
place_once (Some place.Edge) request book peer = λ one other h k. h ∙ sym k
place_once (Some place.Edits) request book peer =
    edits_once request.verb request.content_type (segment (path_of request.target) 2) request.body

pub answers_once : (request : RequestData) (book : Book) (client : Client) → AtMostOne (AnswersTo request book client)
unfolding AnswersTo
answers_once request book client = place_once (place_of client.routes (path_of request.target)) request book client.peer
