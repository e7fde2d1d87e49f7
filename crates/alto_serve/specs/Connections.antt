-- What a connection comes to: its requests have their turns, one after another, and then it ends (RFC 9112, sections
-- 2.2 and 9).
use Rattle.std.specs.Prelude.{◌≡◌, ◌≢◌, ◌⊎◌, ℕ, ◌<◌, List, [], ◌∷◌, ◌++◌, length, take, map, filter, not, false, true}
use Rattle.std.specs.Prelude.{Option, Some, None, IfSome, All}
use Rattle.std.specs.List.{flat_map}
use Rattle.alto_http.specs.Link.{extended, followed_by}
use Rattle.alto_http.specs.Request.{RequestData}
use Rattle.alto_http.specs.Splits.{Begins, IsRefused, Ending, clean, cut, refused, Splits}
use Rattle.alto_http.specs.declared.fault.HeadFault.{HeadFault}
use Rattle.alto_replies.specs.Replies.{head_status, status_alone}
use Rattle.alto_replies.specs.Reply.{ReplyData, bytes_of, memory_reply}
use Rattle.alto_serve.specs.declared.end.End.{End}
use Rattle.alto_serve.specs.declared.end.End.TheVariants as end
use Rattle.alto_serve.specs.Events.{Event, wrote, Known, Emits, bytes_in}
use Rattle.alto_serve.specs.Turns.{Exchange, Setting, TakesTurn, IsCutOff}
use Rattle.alto_serve.specs.Walks.{WalksReachDocuments}

-- the most requests that have their turns in a connection
abbrev pub most_requests : ℕ
most_requests = 1000000

-- ---- exchanges

-- a request had its turn, which led to its reply
abbrev pub IsTurn : Setting → Exchange → Type 0
IsTurn setting exchange = TakesTurn setting exchange.request exchange.events exchange.reply

-- a turn's events, and then its reply is written
abbrev pub events_of : Exchange → List Event
events_of exchange = exchange.events ++ wrote (bytes_of exchange.reply exchange.request.close) ∷ []

-- what happens in exchanges, one after another
abbrev pub trace_of : List Exchange → List Event
trace_of exchanges = flat_map events_of exchanges

-- the requests of exchanges
abbrev pub requests_of : List Exchange → List RequestData
requests_of exchanges = map (λ exchange. exchange.request) exchanges

-- the requests that leave the connection open
abbrev pub open_ones : List RequestData → List RequestData
open_ones requests = filter (λ request. not request.close) requests

-- ---- ends

-- bytes are these requests, each of which leaves the connection open, and then the rest
abbrev pub BeginWithOpen : List ℕ → List RequestData → List ℕ → Type 0
BeginWithOpen bytes [] rest = bytes ≡ rest
BeginWithOpen bytes (request ∷ requests) rest =
    (behind : List ℕ) × Begins bytes request behind × (request.close ≡ false) × BeginWithOpen behind requests rest

-- the bytes that refuse a head, where its fault has a status (a cut, a failed read and out of memory have none)
abbrev pub refusal_bytes : Option ℕ → List ℕ
refusal_bytes None = []
refusal_bytes (Some status) = bytes_of (status_alone status) true

-- what happens at an ending: a refusal is written, and at any other nothing
abbrev pub refusal_at : Ending → List Event
refusal_at (refused fault) = wrote (refusal_bytes (head_status fault)) ∷ []
refusal_at _ = []

-- memory ran out while the rest of the bytes was read, in which case no event happened, or in the turn of the request
-- that the rest begins with
abbrev pub RunsOutOfMemory : Setting → List ℕ → List Event → Type 0
RunsOutOfMemory setting rest events =
    (events ≡ [])
    ⊎ ((request : RequestData) × (behind : List ℕ) × Begins rest request behind × IsCutOff setting request events)

-- what is written next, behind these events: the reply to the next request, the refusal of bytes that are no request,
-- or a 500 where memory ran out
abbrev pub IsWrittenNext : Setting → List ℕ → List Event → List ℕ → Type 0
IsWrittenNext setting rest events bytes =
    ((request : RequestData) × (behind : List ℕ) × (reply : ReplyData)
    × Begins rest request behind × TakesTurn setting request events reply × (bytes ≡ bytes_of reply request.close))
    ⊎ ((fault : HeadFault) × IsRefused rest fault × (events ≡ []) × (bytes ≡ refusal_bytes (head_status fault)))
    ⊎ (RunsOutOfMemory setting rest events × (bytes ≡ memory_reply))

-- the table of ends: which requests the bytes of a link are, and what happens behind their turns, the tail.
-- Closed: the bytes end with the last request, or that request closes, or what follows is refused, and the refusal is
-- written. Cut: the bytes end inside a request, and nothing happens. Limit: nothing happens, and more bytes may follow.
-- ReadFault: the requests are those that lie whole in the bytes that were given, which are all but `left`.
-- WriteFault: a part of the bytes of `IsWrittenNext` was written, perhaps none or all; where these are a reply, its
-- whole turn came before. Memory: a 500 is written
abbrev pub Ended : End → Setting → List ℕ → Option (List ℕ) → List RequestData → List Event → Type 0
Ended end.Closed setting bytes left requests tail =
    (ending : Ending) × (ending ≢ cut) × Splits bytes requests ending × (tail ≡ refusal_at ending)
Ended end.Cut setting bytes left requests tail = Splits bytes requests cut × (tail ≡ [])
Ended end.Limit setting bytes left requests tail = (rest : List ℕ) × BeginWithOpen bytes requests rest × (tail ≡ [])
Ended end.ReadFault setting bytes left requests tail =
    (given : List ℕ) × (ending : Ending) × (Some bytes ≡ followed_by given left) × ((ending ≡ clean) ⊎ (ending ≡ cut))
    × Splits given requests ending × (tail ≡ [])
Ended end.WriteFault setting bytes left requests tail =
    (rest : List ℕ) × (events : List Event) × (whole : List ℕ) × (size : ℕ)
    × BeginWithOpen bytes requests rest × IsWrittenNext setting rest events whole
    × (tail ≡ events ++ wrote (take size whole) ∷ [])
Ended end.Memory setting bytes left requests tail =
    (rest : List ℕ) × (events : List Event)
    × BeginWithOpen bytes requests rest × RunsOutOfMemory setting rest events
    × (tail ≡ events ++ wrote memory_reply ∷ [])

-- memory ran out before a byte was read, and nothing happened
abbrev pub EndsUnread : End → List ℕ → Option (List ℕ) → List RequestData → List Event → Type 0
EndsUnread ended bytes left requests tail =
    (ended ≡ end.Memory) × (requests ≡ []) × (tail ≡ []) × (left ≡ Some bytes)

-- at Limit as many requests had their turns as a connection may bring. At any other end fewer had theirs, not counting
-- a last one that closes
abbrev pub IsWithinMost : End → List RequestData → Type 0
IsWithinMost ended requests =
    ((ended ≡ end.Limit) × (length requests ≡ most_requests))
    ⊎ ((ended ≢ end.Limit) × (length (open_ones requests) < most_requests))

-- ---- the whole connection

-- what is known of an office, and the bytes that a link has still to give, and those that it has put out, where it
-- tells them
pub record State : Type 0 where
  pub known : Known
  pub left : Option (List ℕ)
  pub out : Option (List ℕ)

-- the state of these
abbrev pub state : Known → Option (List ℕ) → Option (List ℕ) → State
state known left out = record { known = known; left = left; out = out }

-- as `Emits`, and what the events wrote is out on the link
abbrev pub EmitsOnLink : Setting → (List Event → Type 0) → State → State → Type 0
EmitsOnLink setting P before after =
    Emits setting.alone (λ events. (after.out ≡ extended before.out (bytes_in events)) × P events)
    before.known after.known

-- by these events the bytes of a link are served until the connection ends in this way: the requests of the bytes had
-- their turns, and then came what the end says. `left` is what the link hasn't given
pub record IsServed (ended : End) (setting : Setting) (bytes : List ℕ) (left : Option (List ℕ)) (events : List Event)
    : Type 0 where
  pub exchanges : List Exchange
  pub tail : List Event
  pub whole : events ≡ trace_of exchanges ++ tail
  pub turns : All (IsTurn setting) exchanges
  pub ends : Ended ended setting bytes left (requests_of exchanges) tail
      ⊎ EndsUnread ended bytes left (requests_of exchanges) tail
  pub within : IsWithinMost ended (requests_of exchanges)

-- where a link tells its bytes: they are served until the connection ends in this way, and each walk along the edges
-- that its exchanges gave reaches the document in the book that was seen last. Of other links nothing is said
abbrev pub Serves : End → Setting → State → State → Type 0
Serves ended setting before after =
    IfSome before.left (λ bytes. EmitsOnLink setting
    (λ events. (served : IsServed ended setting bytes after.left events)
    × WalksReachDocuments setting.client served.exchanges after.known.seen)
    before after)
