-- Requests, and replies written out.
use Rattle.std.specs.Prelude.{ℕ, List, [], ◌∷◌, Some, None, map, false, codes}
use Rattle.serde_json.specs.Data.{Data, string}
use Rattle.json_tree.specs.Document.{array_of, object_of}
use Rattle.alto_book.specs.Book.{Book}
use Rattle.alto_http.specs.Request.{RequestData}
use Rattle.alto_http.specs.declared.request.Verb.TheVariants as verb
use Rattle.alto_replies.specs.Reply.{ReplyData}
use Rattle.alto_answers.specs.Answers.{PlaceAnswers}
use Rattle.alto_answers.specs.declared.outcome.Answer.{Answer}
use Rattle.alto_answers.specs.declared.outcome.Answer.TheVariants as answer
use Rattle.alto_answers.specs.declared.route.Place.TheVariants as place

-- a request to read
abbrev pub get : List ℕ → RequestData
get target = record {
  verb = verb.Get;
  target = target;
  content_type = None;
  accept = None;
  host = None;
  close = false;
  body = [];
}

-- reading a map from a console comes to this
abbrev pub ReadsMap : List ℕ → Book → Answer → Type 0
ReadsMap target book given = PlaceAnswers (Some place.Maps) (get target) book None given

-- reading an edge from a console comes to this
abbrev pub ReadsEdge : List ℕ → Book → Answer → Type 0
ReadsEdge target book given = PlaceAnswers (Some place.Edge) (get target) book None given

-- the reply with this status, content type and body
abbrev pub reply_data : ℕ → List ℕ → List ℕ → ReplyData
reply_data status content_type body = record { status = status; content_type = content_type; allow = None; body = body }

-- the answer that is such a reply
abbrev pub reply : ℕ → List ℕ → List ℕ → Answer
reply status content_type body = answer.Reply (reply_data status content_type body)

-- the reply with an opened view
abbrev pub view : List ℕ → ReplyData
view body = reply_data 200 (codes "application/alto-tips+json") body

-- the reply with a network map
abbrev pub network_map : List ℕ → Answer
network_map body = reply 200 (codes "application/alto-networkmap+json") body

-- the reply with a merge patch
abbrev pub merge_patch : List ℕ → Answer
merge_patch body = reply 200 (codes "application/merge-patch+json") body

-- a refusal
abbrev pub refusal : ℕ → List ℕ → Answer
refusal status body = reply status (codes "application/json") body

-- the list of these texts
abbrev pub texts : List (List ℕ) → Data
texts items = array_of (map string items)

-- the object whose member `edits` is the list of these items
abbrev pub edits_member : List Data → Data
edits_member items = object_of ((codes "edits", array_of items) ∷ [])
