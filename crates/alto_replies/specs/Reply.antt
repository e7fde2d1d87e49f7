-- A reply and its bytes (RFC 9112, sections 4 to 6; phrases of RFC 9110, section 15, 425 of RFC 8470, 431 of RFC 6585).
use Rattle.std.specs.Prelude.{◌≡◌, ◌≢◌, ℕ, Bool, true, false, List, [], ◌∷◌, ◌++◌, length, Option, Some, None, is_some}
use Rattle.std.specs.Prelude.{unwrap_or, codes, decimal, ◌==◌}
use Rattle.std.specs.Map.{lookup}
use Rattle.httparse.specs.Ascii.{crlf_bytes}
use Rattle.alto_http.specs.declared.request.Verb.{Verb}
use Rattle.alto_http.specs.declared.request.Verb.TheVariants as verb

-- a reply as plain data
pub record ReplyData : Type 0 where
  pub status : ℕ
  pub content_type : List ℕ
  pub allow : Option Verb
  pub body : List ℕ

-- the status codes of replies, with their phrases
abbrev pub phrases : List (ℕ × List ℕ)
phrases =
    (200, codes "OK")
    ∷ (400, codes "Bad Request")
    ∷ (404, codes "Not Found")
    ∷ (405, codes "Method Not Allowed")
    ∷ (409, codes "Conflict")
    ∷ (410, codes "Gone")
    ∷ (411, codes "Length Required")
    ∷ (413, codes "Content Too Large")
    ∷ (415, codes "Unsupported Media Type")
    ∷ (422, codes "Unprocessable Content")
    ∷ (425, codes "Too Early")
    ∷ (431, codes "Request Header Fields Too Large")
    ∷ (501, codes "Not Implemented")
    ∷ (503, codes "Service Unavailable")
    ∷ []

-- the phrase of a status code, where it is one of a reply's
abbrev pub phrase_of : ℕ → Option (List ℕ)
phrase_of status = lookup (λ code. code == status) phrases

-- a line with its end
abbrev pub line : List ℕ → List ℕ
line text = text ++ crlf_bytes

-- the method that is allowed, as it is written
abbrev pub verb_text : Verb → List ℕ
verb_text verb.Get = codes "GET"
verb_text verb.Post = codes "POST"
verb_text verb.Other = []

-- the line of a status code, with its phrase
unfoldable pub status_line : ℕ → List ℕ
status_line status = line (codes "HTTP/1.1 " ++ decimal status ++ codes " " ++ unwrap_or (phrase_of status) [])

-- the field that names the media type of the body
unfoldable pub type_field : List ℕ → List ℕ
type_field media_type = line (codes "Content-Type: " ++ media_type)

-- the field that tells the length of the body
unfoldable pub length_field : ℕ → List ℕ
length_field size = line (codes "Content-Length: " ++ decimal size)

-- the field that names the allowed method, where there is one
unfoldable pub allow_field : Option Verb → List ℕ
allow_field None = []
allow_field (Some allowed) = line (codes "Allow: " ++ verb_text allowed)

-- the field that says that the connection closes, where it does
unfoldable pub close_field : Bool → List ℕ
close_field true = line (codes "Connection: close")
close_field false = []

-- the status line and the fields of a reply, with the empty line after them
abbrev pub head_of : ReplyData → Bool → List ℕ
head_of reply closing =
    status_line reply.status
    ++ type_field reply.content_type
    ++ length_field (length reply.body)
    ++ allow_field reply.allow
    ++ close_field closing
    ++ crlf_bytes

-- the bytes of a reply, after which the connection closes or not
unfoldable pub bytes_of : ReplyData → Bool → List ℕ
bytes_of reply closing = head_of reply closing ++ reply.body

-- a reply that has bytes: its status has a phrase, and a method is allowed by a 405 alone, GET or POST
pub record IsReply (reply : ReplyData) : Type 0 where
  pub has_phrase : is_some (phrase_of reply.status) ≡ true
  pub names_method : reply.allow ≢ Some verb.Other
  pub with_405 : is_some reply.allow ≡ (reply.status == 405)

-- the bytes that answer where the server is out of memory, written without taking any
abbrev pub memory_reply : List ℕ
memory_reply =
    line (codes "HTTP/1.1 500 Internal Server Error")
    ++ line (codes "Content-Length: 0")
    ++ line (codes "Connection: close")
    ++ line []
