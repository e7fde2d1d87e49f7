-- The edges that a connection was answered with, and walks along them (RFC 9569, section 3). A resource's number is how
-- many batches changed it, and an edge leads from one number to another.
use Rattle.std.specs.Prelude.{◌≡◌, ℕ, ◌≤◌, List, [], ◌∷◌, map, Some, Ok}
use Rattle.std.specs.List.{Contains}
use Rattle.serde_json.specs.Data.{Data}
use Rattle.serde_json.specs.Written.{compact_text}
use Rattle.alto_rows.specs.declared.resource.Resource.{Resource}
use Rattle.alto_rows.specs.Good.{IsResource}
use Rattle.alto_rows.specs.Ids.{resource_id}
use Rattle.alto_book.specs.Book.{Book}
use Rattle.edge_patch.specs.declared.form.PatchForm.{PatchForm}
use Rattle.alto_book.specs.Walks.{Content, content_data, document_at, edge_content, Edge, followed}
use Rattle.alto_http.specs.Request.{RequestData}
use Rattle.alto_answers.specs.declared.route.Place.TheVariants as place
use Rattle.alto_answers.specs.declared.client.Client.{Client}
use Rattle.alto_answers.specs.Accept.{patch_form}
use Rattle.alto_answers.specs.Edges.{edge_number, edge_reply}
use Rattle.alto_answers.specs.Routes.{place_of}
use Rattle.alto_answers.specs.Target.{path_of, segment}
use Rattle.alto_serve.specs.Turns.{Exchange}

-- an edge that a request may ask for: between two numbers, and the form of its patch
pub record EdgeAsked : Type 0 where
  pub i : ℕ
  pub j : ℕ
  pub form : PatchForm

-- a request asks for this edge of a resource: its path is `/tips/{resource}/ug/{i}/{j}`, of which these are segments 2,
-- 4 and 5. Its method needn't be named: no other than GET is answered 200
pub record AsksEdge (client : Client) (request : RequestData) (resource : Resource) (edge : EdgeAsked) : Type 0 where
  pub routed : place_of client.routes (path_of request.target) ≡ Some place.Edge
  -- the names of the resource are of their alphabets
  pub good : IsResource resource
  pub id : resource_id resource ≡ segment (path_of request.target) 2
  pub from : edge_number (segment (path_of request.target) 4) ≡ Some edge.i
  pub to : edge_number (segment (path_of request.target) 5) ≡ Some edge.j
  pub accepts : patch_form request.accept ≡ edge.form

-- one of these exchanges gives an edge: its request asked for the edge, and was answered 200
pub record GivesEdge
    (client : Client) (exchanges : List Exchange) (resource : Resource) (edge : EdgeAsked) (exchange : Exchange)
    : Type 0 where
  pub there : Contains exchanges exchange
  pub asked : AsksEdge client exchange.request resource edge
  pub ok : exchange.reply.status ≡ 200

-- edges are a walk from one number to another: each was given, by any of these exchanges, and begins where the one
-- before ended
abbrev pub IsWalkIn : Client → List Exchange → Resource → ℕ → List EdgeAsked → ℕ → Type 0
IsWalkIn client exchanges resource from [] at = from ≡ at
IsWalkIn client exchanges resource from (edge ∷ edges) at =
    (edge.i ≡ from) × ((exchange : Exchange) × GivesEdge client exchanges resource edge exchange)
    × IsWalkIn client exchanges resource edge.j edges at

-- what such an edge holds, by this book
abbrev pub content_in : Book → Resource → EdgeAsked → Content
content_in book resource edge = edge_content book resource edge.form edge.i edge.j

-- an edge that was asked for, with what it holds by this book
abbrev pub edge_of : Book → Resource → EdgeAsked → Edge
edge_of book resource edge =
    record { i = edge.i; j = edge.j; form = edge.form; content = content_in book resource edge }

-- what holds at a book of the edges that exchanges gave, and of walks along them
pub record WalksReachDocuments (client : Client) (exchanges : List Exchange) (book : Book) : Type 0 where
  -- a reply that gave an edge, at whatever book, is the reply with what the edge holds by this book, also where the
  -- edge is past the window by now and would be answered 410
  pub replies : (resource : Resource) (edge : EdgeAsked) (exchange : Exchange)
      → GivesEdge client exchanges resource edge exchange
      → exchange.reply ≡ edge_reply book resource edge.form edge.i edge.j
  -- that is, its body is the text of what the edge holds by this book
  pub bodies : (resource : Resource) (edge : EdgeAsked) (exchange : Exchange)
      → GivesEdge client exchanges resource edge exchange
      → exchange.reply.body ≡ compact_text (content_data (content_in book resource edge))
  -- whoever begins with the document at the walk's first number, with anything where that is 0, and follows its edges,
  -- at least one, holds exactly the document at its last number: no patch fails
  pub walks : (resource : Resource) (from at : ℕ) (first : EdgeAsked) (edges : List EdgeAsked) (held : Data)
      → IsWalkIn client exchanges resource from (first ∷ edges) at → (1 ≤ from → held ≡ document_at book resource from)
      → followed held (map (edge_of book resource) (first ∷ edges)) ≡ Ok (document_at book resource at)
