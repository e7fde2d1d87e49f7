-- A request, and what the bytes of its head say (RFC 9112, section 3; RFC 9110, section 9.1).
use Rattle.std.specs.Prelude.{◌≡◌, ℕ, ◌<◌, ◌≤◌, ◌⊎◌, Bool, true, false, if◌then◌else◌, List, [], map, Option, is_some}
use Rattle.std.specs.Prelude.{length, Result, Ok, Err, bytes_eq, codes}
use Rattle.httparse.specs.Grammar.{RequestHead, ReadsRequest, HasNoRequest}
use Rattle.httparse.specs.Spans.{name_and_value}
use Rattle.alto_http.specs.declared.fault.HeadFault.{HeadFault}
use Rattle.alto_http.specs.declared.fault.HeadFault.TheVariants.{TooLarge, BadHead, Coded}
use Rattle.alto_http.specs.declared.request.Verb.{Verb}
use Rattle.alto_http.specs.declared.request.Verb.TheVariants.{Get, Post, Other}
use Rattle.alto_http.specs.Fields.{values_of, first, closes, length_of_body}
use Rattle.alto_http.specs.Head.{line_feeds}

-- a request as pure data: bytes are lists
pub record RequestData : Type 0 where
  pub verb : Verb
  pub target : List ℕ
  pub content_type : Option (List ℕ)
  pub accept : Option (List ℕ)
  pub host : Option (List ℕ)
  pub close : Bool
  pub body : List ℕ

-- the verb of a method
abbrev pub verb_of : List ℕ → Verb
verb_of method = if bytes_eq method (codes "GET") then Get else if bytes_eq method (codes "POST") then Post else Other

-- whether the verb is POST
abbrev pub is_post : Verb → Bool
is_post Post = true
is_post Get = false
is_post Other = false

-- a request with this method, target, minor version and fields, whose body is still to come
abbrev pub request_from : List ℕ → List ℕ → ℕ → List (List ℕ × List ℕ) → RequestData
request_from method target minor fields = record {
  verb = verb_of method;
  target = target;
  content_type = first (values_of (codes "content-type") fields);
  accept = first (values_of (codes "accept") fields);
  host = first (values_of (codes "host") fields);
  close = closes minor fields;
  body = [];
}

-- the length of the body that a request with this verb and these fields has
abbrev pub body_length : Verb → List (List ℕ × List ℕ) → Result ℕ HeadFault
body_length verb fields =
    if is_some (first (values_of (codes "transfer-encoding") fields)) then Err Coded
    else length_of_body (is_post verb) (values_of (codes "content-length") fields)

-- the names and the values of a head's fields
abbrev pub fields_of : RequestHead → List (List ℕ × List ℕ)
fields_of head = map name_and_value head.fields

-- the request that a head stands for, without its body
abbrev pub request_of : RequestHead → RequestData
request_of head = request_from head.method head.target head.minor (fields_of head)

-- the length of the body that follows a head
abbrev pub length_after : RequestHead → Result ℕ HeadFault
length_after head = body_length (verb_of head.method) (fields_of head)

-- the most lines that a head has: a request line, 64 fields and an empty line
abbrev pub line_limit : ℕ
line_limit = 66

-- the bytes begin with no head of so many fields at most
abbrev pub HasNoRequestWithin : ℕ → List ℕ → Type 0
HasNoRequestWithin room bytes =
    (head : RequestHead) (rest : List ℕ) → ReadsRequest bytes head rest → length head.fields ≤ room → ⊥

-- the bytes begin with a head, which stands for this request and says this length of its body
abbrev pub Passes : List ℕ → RequestData → ℕ → Type 0
Passes bytes request size =
    (head : RequestHead) × (rest : List ℕ) × ReadsRequest bytes head rest
    × (line_feeds bytes ≤ line_limit) × (request ≡ request_of head) × (length_after head ≡ Ok size)

-- the first check that fails gives this fault: the lines, then the grammar, then the fields
abbrev pub FailsBy : List ℕ → HeadFault → Type 0
FailsBy bytes fault =
    ((line_limit < line_feeds bytes) × (fault ≡ TooLarge))
    ⊎ ((line_feeds bytes ≤ line_limit) × HasNoRequest bytes × (fault ≡ BadHead))
    ⊎ ((line_feeds bytes ≤ line_limit)
    × ((head : RequestHead) × (rest : List ℕ) × ReadsRequest bytes head rest × (length_after head ≡ Err fault)))
