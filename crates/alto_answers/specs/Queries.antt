-- Queries of a network by a body: filtered maps (RFC 7285, section 11.3; RFC 8189, section 4.1; RFC 9240, section 8),
-- costs between addresses (RFC 7285, section 11.5) and path vectors (RFC 9275, section 7.2).
use Rattle.std.specs.Prelude.{◌≡◌, ℕ, List, Bool, true, false, Option, Some, None, Result, Ok, Err, if◌then◌else◌}
use Rattle.std.specs.Prelude.{codes}
use Rattle.serde_json.specs.Data.{Data}
use Rattle.alto_addr.specs.declared.addr.Addr.{Addr}
use Rattle.alto_names.specs.declared.label.NameFault.{NameFault}
use Rattle.alto_names.specs.Name.{named, is_net_byte}
use Rattle.alto_rows.specs.declared.key.Key.TheVariants as key
use Rattle.alto_rows.specs.Rows.{Rows, has_row}
use Rattle.alto_asks.specs.Asks.{◌>>=◌, ask_of}
use Rattle.alto_asks.specs.declared.fault.AskFault.{AskFault}
use Rattle.cost_filters.specs.Ask.{cost_ask}
use Rattle.cost_filters.specs.Filter.{filtered_costs}
use Rattle.endpoint_costs.specs.Ask.{EndAskData, ReadsEndAsk}
use Rattle.endpoint_costs.specs.Costs.{endpoint_costs}
use Rattle.net_docs.specs.Ask.{net_ask}
use Rattle.net_docs.specs.Filter.{filtered_network}
use Rattle.path_docs.specs.Ask.{path_ask}
use Rattle.path_docs.specs.declared.ask.PathAsk.{PathAsk}
use Rattle.path_docs.specs.Multipart.{multipart}
use Rattle.path_docs.specs.PathCosts.{path_costs}
use Rattle.path_docs.specs.PathProperties.{path_properties}
use Rattle.prop_docs.specs.Ask.{PropAskData, ReadsPropAsk}
use Rattle.prop_filters.specs.Filter.{filtered_properties}
use Rattle.alto_versions.specs.Front.{Version}
use Rattle.alto_http.specs.declared.request.Verb.{Verb}
use Rattle.alto_http.specs.declared.request.Verb.TheVariants as verb
use Rattle.alto_replies.specs.Errors.{reply_or_error}
use Rattle.alto_replies.specs.Replies.{document_reply, not_found, ok_reply, status_alone, wrong_method}
use Rattle.alto_replies.specs.Reply.{ReplyData}
use Rattle.alto_answers.specs.declared.outcome.Answer.{Answer}
use Rattle.alto_answers.specs.declared.outcome.Answer.TheVariants as answer
use Rattle.alto_answers.specs.declared.route.Query.{Query}
use Rattle.alto_answers.specs.declared.route.Query.TheVariants as query
use Rattle.alto_answers.specs.Forms.{has_type}
use Rattle.alto_answers.specs.Types.{cost_map_type, endpoint_cost_type, network_map_type, path_vector_type}
use Rattle.alto_answers.specs.Types.{property_map_type}

-- a name, where a network of this name is declared
abbrev pub declared_net : Rows → Result (List ℕ) NameFault → Option (List ℕ)
declared_net rows (Ok net) = if has_row rows (key.Net net) then Some net else None
declared_net rows (Err fault) = None

-- the declared network that a text names
abbrev pub net_named : Rows → List ℕ → Option (List ℕ)
net_named rows text = declared_net rows (named is_net_byte 24 text)

-- the media type of a query's body
abbrev pub body_type : Query → List ℕ
body_type query.NetworkMap = codes "application/alto-networkmapfilter+json"
body_type query.CostMap = codes "application/alto-costmapfilter+json"
body_type query.EndpointCosts = codes "application/alto-endpointcostparams+json"
body_type query.PropertyMap = codes "application/alto-propmapparams+json"
body_type query.PathVector = codes "application/alto-costmapfilter+json"

-- which segment of a query's path names the network
abbrev pub net_segment : Query → ℕ
net_segment query.NetworkMap = 3
net_segment query.CostMap = 3
net_segment query.EndpointCosts = 2
net_segment query.PropertyMap = 3
net_segment query.PathVector = 2

-- what a query is answered from: the rows, how many batches led to them, and the client's address, where it is known
pub record Seen : Type 0 where
  pub rows : Rows
  pub number : ℕ
  pub peer : Option Addr

-- what a query of a client is answered from at a version
abbrev pub seen_in : Version → Option Addr → Seen
seen_in version peer = record { rows = version.rows; number = version.n; peer = peer }

-- both parts of a path vector
abbrev pub path_body : Seen → List ℕ → PathAsk → List ℕ
path_body seen net ask =
    multipart (path_costs seen.rows net ask seen.number) (path_properties seen.rows net ask seen.number)

-- a declared network answers so to the object that a body is, or tells the object's first fault
abbrev pub Queried : Query → Seen → List ℕ → Data → Result ReplyData AskFault → Type 0
Queried query.NetworkMap seen net value given =
    given ≡ (net_ask value >>= λ ask. Ok (document_reply network_map_type (filtered_network seen.rows net ask)))
Queried query.CostMap seen net value given =
    given ≡ (cost_ask seen.rows net value >>= λ ask.
    Ok (document_reply cost_map_type (filtered_costs seen.rows net ask)))
Queried query.EndpointCosts seen net value given =
    (asked : Result EndAskData AskFault) × ReadsEndAsk seen.rows net value asked
    × (given ≡ (asked >>= λ ask. Ok (document_reply endpoint_cost_type (endpoint_costs seen.rows net ask seen.peer))))
Queried query.PropertyMap seen net value given =
    (asked : Result PropAskData AskFault) × ReadsPropAsk net value asked
    × (given ≡ (asked >>= λ ask. Ok (document_reply property_map_type (filtered_properties seen.rows net ask))))
Queried query.PathVector seen net value given =
    given ≡ (path_ask value >>= λ ask. Ok (ok_reply path_vector_type (path_body seen net ask)))

-- a declared network answers so to a body that reads as this, or tells the body's first fault
abbrev pub Asked : Query → Seen → List ℕ → Result Data AskFault → Result ReplyData AskFault → Type 0
Asked of seen net (Err why) given = given ≡ Err why
Asked of seen net (Ok value) given = Queried of seen net value given

-- a network, if it is declared, replies so to a body
abbrev pub QueryReply : Query → Seen → Option (List ℕ) → List ℕ → ReplyData → Type 0
QueryReply of seen None body reply = reply ≡ not_found (codes "resource")
QueryReply of seen (Some net) body reply =
    (given : Result ReplyData AskFault) × Asked of seen net (ask_of body) given × (reply ≡ reply_or_error given)

-- a body, if it is of the query's type, is answered so
abbrev pub PostedQuery : Bool → Query → Seen → List ℕ → List ℕ → Answer → Type 0
PostedQuery false of seen text body given = given ≡ answer.Reply (status_alone 415)
PostedQuery true of seen text body given =
    (reply : ReplyData) × QueryReply of seen (net_named seen.rows text) body reply × (given ≡ answer.Reply reply)

-- a query of the network that a text names is answered so
abbrev pub QueryAnswer : Query → Verb → Option (List ℕ) → Seen → List ℕ → List ℕ → Answer → Type 0
QueryAnswer of verb.Post content_type seen text body given =
    PostedQuery (has_type (body_type of) content_type) of seen text body given
QueryAnswer of verb.Get content_type seen text body given = given ≡ answer.Reply (wrong_method verb.Post)
QueryAnswer of verb.Other content_type seen text body given = given ≡ answer.Reply (wrong_method verb.Post)
