-- Opening a view (RFC 9569, section 6): the ask, the number that its tag holds, and the reply.
use Rattle.std.specs.Prelude.{ℕ, ◌+◌, ◌-◌, List, [], ◌∷◌, ◌++◌, Option, Some, None, option_and_then, Result, Ok, Err}
use Rattle.std.specs.Prelude.{codes, decimal, bytes_eq}
use Rattle.std.specs.List.{find, range_with_len}
use Rattle.serde_json.specs.Data.{Data, string}
use Rattle.json_tree.specs.Document.{object_of}
use Rattle.tips_graph.specs.Edges.{recommended_edge}
use Rattle.tips_graph.specs.Graph.{GraphData, first_of, last_of}
use Rattle.alto_asks.specs.declared.fault.AskFault.{AskFault}
use Rattle.alto_asks.specs.Asks.{◌>>=◌, ask_of, required_text, optional_text, wrong_text}
use Rattle.alto_answers.specs.Authority.{authority_of}
use Rattle.alto_replies.specs.Errors.{reply_or_error}
use Rattle.alto_replies.specs.Reply.{ReplyData}
use Rattle.alto_replies.specs.Replies.{whole, document_reply}

-- the media type of an opened view (section 6.2)
abbrev pub view_type : List ℕ
view_type = codes "application/alto-tips+json"

-- the field that names the resource
abbrev pub resource_field : List ℕ
resource_field = codes "resource-id"

-- the field with the tag of the version that the client holds
abbrev pub tag_field : List ℕ
tag_field = codes "tag"

-- the tag of a number (RFC 7285, section 10.3)
abbrev pub tag : List ℕ → ℕ → List ℕ
tag epoch number = epoch ++ codes "-" ++ decimal number

-- the kept numbers, where these are the first and the last
abbrev pub kept_numbers : ℕ → ℕ → List ℕ
kept_numbers first last = range_with_len first (last + 1 - first)

-- the kept number whose tag a text is
unfoldable pub held_number : List ℕ → ℕ → ℕ → List ℕ → Option ℕ
held_number epoch first last text = find (λ number. bytes_eq text (tag epoch number)) (kept_numbers first last)

-- an edge, as it is told
abbrev pub edge_data : ℕ × ℕ → Data
edge_data edge = object_of ((codes "seq-i", whole edge.0) ∷ (codes "seq-j", whole edge.1) ∷ [])

-- the kept numbers of a graph and the first edge, as they are told
abbrev pub graph_summary : ℕ → ℕ → ℕ × ℕ → Data
graph_summary first last edge =
    object_of
    ((codes "end-seq", whole last) ∷ (codes "start-edge-rec", edge_data edge) ∷ (codes "start-seq", whole first) ∷ [])

-- the summary of a view, which is that of its graph
abbrev pub view_summary : Data → Data
view_summary graph = object_of ((codes "updates-graph-summary", graph) ∷ [])

-- an opened view, as it is told
abbrev pub view_data : Data → List ℕ → Data
view_data summary uri = object_of ((codes "tips-view-summary", summary) ∷ (codes "tips-view-uri", string uri) ∷ [])

-- the URI of a resource's view
abbrev pub view_uri : List ℕ → List ℕ → List ℕ
view_uri authority resource = codes "http://" ++ authority ++ codes "/tips/" ++ resource

-- the reply with the view of a resource: its URI, its kept numbers, and the first edge that is recommended
unfoldable pub view_reply : List ℕ → List ℕ → ℕ → ℕ → ℕ × ℕ → ReplyData
view_reply authority resource first last edge =
    document_reply view_type (view_data (view_summary (graph_summary first last edge)) (view_uri authority resource))

-- the edge that is recommended to a client which holds the version of this tag, or none
abbrev pub edge_for : List ℕ → GraphData → Option (List ℕ) → ℕ × ℕ
edge_for epoch graph tag =
    let first = first_of graph in
    let last = last_of graph in
    recommended_edge first last (option_and_then (held_number epoch first last) tag)

-- the graph of a resource, if it is declared
abbrev pub declared : List ℕ → Option GraphData → Result GraphData AskFault
declared resource (Some graph) = Ok graph
declared resource None = Err (wrong_text resource_field resource)

-- the view of a resource with this graph, opened by an ask
unfoldable pub opened : List ℕ → Option (List ℕ) → Data → List ℕ → GraphData → Result ReplyData AskFault
opened epoch host ask resource graph =
    optional_text tag_field ask
    >>= λ tag. Ok (view_reply (authority_of host) resource (first_of graph) (last_of graph) (edge_for epoch graph tag))

-- what opening a view comes to: the body is read, then the field of the resource, the resource itself, and its tag
abbrev pub opening : List ℕ → (List ℕ → Option GraphData) → Option (List ℕ) → List ℕ → Result ReplyData AskFault
opening epoch graph_of host body =
    ask_of body
    >>= λ ask. required_text resource_field ask
    >>= λ resource. declared resource (graph_of resource)
    >>= λ graph. opened epoch host ask resource graph

-- the reply to an ask to open a view, where this is the epoch, and these are the graphs of the declared resources
unfoldable pub opening_reply : List ℕ → (List ℕ → Option GraphData) → Option (List ℕ) → List ℕ → ReplyData
opening_reply epoch graph_of host body = reply_or_error (opening epoch graph_of host body)
