-- What one request more does to a connection: the definitions that the functions inside `serve_conn` are stated with.
use Rattle.std.specs.Prelude.{◌≡◌, ◌≢◌, ◌⊎◌, ℕ, Bool, true, false, List, [], ◌∷◌, ◌++◌, length, take, All, Option, Some}
use Rattle.std.specs.Prelude.{None, IfSome, IsSome, Result}
use Rattle.alto_book.specs.Book.{Book}
use Rattle.alto_book.specs.declared.command.Receipt.{Receipt}
use Rattle.alto_book.specs.declared.fault.EditFault.{EditFault}
use Rattle.alto_http.specs.Link.{extended, one_more}
use Rattle.alto_http.specs.Request.{RequestData}
use Rattle.alto_http.specs.Splits.{Begins}
use Rattle.alto_http.specs.declared.fault.HeadFault.{HeadFault}
use Rattle.alto_http.specs.declared.fault.HeadFault.TheVariants as head
use Rattle.alto_answers.specs.Answers.{AnswersTo}
use Rattle.alto_answers.specs.declared.outcome.Answer.{Answer}
use Rattle.alto_answers.specs.declared.outcome.Answer.TheVariants as answer
use Rattle.alto_answers.specs.declared.client.Client.{Client}
use Rattle.alto_replies.specs.Replies.{edit_reply, head_status, too_early}
use Rattle.alto_replies.specs.Reply.{ReplyData, bytes_of, memory_reply}
use Rattle.alto_serve.specs.declared.end.End.{End}
use Rattle.alto_serve.specs.declared.end.End.TheVariants as end
use Rattle.alto_serve.specs.Connections.{BeginWithOpen, EmitsOnLink, Ended, IsTurn, State, open_ones, refusal_bytes}
use Rattle.alto_serve.specs.Connections.{requests_of, trace_of}
use Rattle.alto_serve.specs.Events.{Event, wrote, Submits}
use Rattle.alto_serve.specs.Turns.{Exchange, IsMoment, Reaches, Setting, TakesTurn, looks_next, sees}

-- ---- in a turn

-- whether a request stays pending: it asks for the edge that comes next
abbrev pub is_pending : Answer → Bool
is_pending (answer.Hold of i j) = true
is_pending _ = false

-- a turn has looked at some book
abbrev pub HasLooked : Client → RequestData → ℕ → List Event → Type 0
HasLooked client request most_waits events =
    (left : ℕ) × (book : Book) × Reaches client request (looks_next most_waits) events (sees left book)

-- a turn has looked at this book, where its request is answered so, and doesn't wait any more
pub record HasSettled
    (client : Client) (request : RequestData) (most_waits : ℕ) (book : Book) (met : Answer) (events : List Event)
    : Type 0 where
  pub left : ℕ
  pub reached : Reaches client request (looks_next most_waits) events (sees left book)
  pub answered : AnswersTo request book client met
  pub last : (is_pending met ≡ false) ⊎ (left ≡ 0)

-- an answer comes to its reply by these events: a reply is that reply; for the edge that comes next it is 425; an
-- import is answered, with a timestamp that the clock may have told
abbrev pub Concludes : Option ℕ → Answer → List Event → ReplyData → Type 0
Concludes fixed_time (answer.Reply reply) events given = (events ≡ []) × (given ≡ reply)
Concludes fixed_time (answer.Hold of i j) events given = (events ≡ []) × (given ≡ too_early i)
Concludes fixed_time (answer.Edit import) events given =
    (moment : ℕ) × (decided : Result Receipt EditFault) × IsMoment fixed_time moment
    × Submits import moment decided events × (given ≡ edit_reply decided)

-- an answer comes to some reply
abbrev pub IsConcluded : Option ℕ → Answer → List Event → Type 0
IsConcluded fixed_time met events = (reply : ReplyData) × Concludes fixed_time met events reply

-- a request has its turn, which leads to a reply of these bytes
abbrev pub RepliesWith : Setting → RequestData → List ℕ → List Event → Type 0
RepliesWith setting request bytes events =
    (reply : ReplyData) × (bytes ≡ bytes_of reply request.close) × TakesTurn setting request events reply

-- ---- in a connection

-- a request has its turn, and its reply is written
abbrev pub HasReply : Setting → RequestData → List Event → Type 0
HasReply setting request events =
    (turn : List Event) × (reply : ReplyData) × TakesTurn setting request turn reply
    × (events ≡ turn ++ wrote (bytes_of reply request.close) ∷ [])

-- the bytes that are left begin with a request that has its turn and doesn't close, and the rest is left
abbrev pub GoesOn : Setting → List ℕ → State → List Event → Type 0
GoesOn setting rest after events =
    (request : RequestData) × (behind : List ℕ) × Begins rest request behind × (request.close ≡ false)
    × (after.left ≡ Some behind) × HasReply setting request events

-- the connection ends at these bytes, with no exchange more, or only that of a request that closes
pub record Finishes (ended : End) (setting : Setting) (rest : List ℕ) (after : State) (events : List Event)
    : Type 0 where
  pub exchanges : List Exchange
  pub tail : List Event
  pub closing : open_ones (requests_of exchanges) ≡ []
  pub going : ended ≢ end.Limit
  pub whole : events ≡ trace_of exchanges ++ tail
  pub turns : All (IsTurn setting) exchanges
  pub ends : Ended ended setting rest after.left (requests_of exchanges) tail

-- `count` requests had their turns, and the rest of the bytes is left
pub record HasServed (setting : Setting) (count : ℕ) (bytes : List ℕ) (after : State) (events : List Event)
    : Type 0 where
  pub exchanges : List Exchange
  pub rest : List ℕ
  pub leaves : after.left ≡ Some rest
  pub counted : length exchanges ≡ count
  pub begins : BeginWithOpen bytes (requests_of exchanges) rest
  pub turns : All (IsTurn setting) exchanges
  pub whole : events ≡ trace_of exchanges

-- where the link tells its bytes, this became of them
abbrev pub Becomes : Setting → (List ℕ → State → List Event → Type 0) → State → State → Type 0
Becomes setting P before after = IfSome before.left (λ bytes. EmitsOnLink setting (P bytes after) before after)

-- ---- what is written without a request

-- bytes were written of which P holds, where a link tells what is out
abbrev pub Writes : (List ℕ → Type 0) → Option (List ℕ) → Option (List ℕ) → Type 0
Writes P out later = (written : List ℕ) × (later ≡ extended out written) × P written

-- memory may run out where bytes brought no request: while they are read, or while the refusal of a head is made
abbrev pub MayRunOut : HeadFault → Type 0
MayRunOut fault = (fault ≡ head.Memory) ⊎ IsSome (head_status fault)

-- a connection ends with what is written of bytes that brought no request
abbrev pub Refuses : End → HeadFault → List ℕ → Type 0
Refuses end.Closed fault written = IsSome (head_status fault) × (written ≡ refusal_bytes (head_status fault))
Refuses end.WriteFault fault written =
    (whole : List ℕ) × (size : ℕ) × (written ≡ take size whole)
    × ((IsSome (head_status fault) × (whole ≡ refusal_bytes (head_status fault)))
    ⊎ (MayRunOut fault × (whole ≡ memory_reply)))
Refuses end.Memory fault written = MayRunOut fault × (written ≡ memory_reply)
Refuses end.Cut fault written = (fault ≡ head.Cut) × (written ≡ [])
Refuses end.ReadFault fault written = (fault ≡ head.ReadFault) × (written ≡ [])
Refuses end.Limit fault written = ⊥

-- a connection ends with the reply to out of memory, or inside it
abbrev pub EndsOutOfMemory : End → List ℕ → Type 0
EndsOutOfMemory end.Memory written = written ≡ memory_reply
EndsOutOfMemory end.WriteFault written = (size : ℕ) × (written ≡ take size memory_reply)
EndsOutOfMemory _ written = ⊥

-- a connection ends with the refusal of this status, or inside it, or out of memory
abbrev pub RefusesWith : End → ℕ → List ℕ → Type 0
RefusesWith end.Closed status written = written ≡ refusal_bytes (Some status)
RefusesWith end.WriteFault status written =
    (whole : List ℕ) × (size : ℕ) × (written ≡ take size whole)
    × ((whole ≡ refusal_bytes (Some status)) ⊎ (whole ≡ memory_reply))
RefusesWith end.Memory status written = written ≡ memory_reply
RefusesWith _ status written = ⊥

-- ---- counts of faults

-- the count of failed reads when a connection has ended: one more where a read's fault ended it
abbrev pub reads_at : End → ℕ → ℕ
reads_at end.ReadFault n = one_more n
reads_at ended n = n

-- the same of failed writes
abbrev pub writes_at : End → ℕ → ℕ
writes_at end.WriteFault n = one_more n
writes_at ended n = n

-- such a count, where a connection may go on
abbrev pub so_far : (End → ℕ → ℕ) → Option End → ℕ → ℕ
so_far count_at None n = n
so_far count_at (Some ended) n = count_at ended n
