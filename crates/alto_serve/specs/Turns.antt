-- The turn of a request: what happens until it has its reply, event by event.
use Rattle.std.specs.Prelude.{◌≡◌, ◌⊎◌, ℕ, suc, Bool, List, [], ◌∷◌, Option, IfSome, Result}
use Rattle.alto_book.specs.Book.{Book, number_of}
use Rattle.alto_book.specs.Import.{Import}
use Rattle.alto_book.specs.declared.command.Receipt.{Receipt}
use Rattle.alto_book.specs.declared.fault.EditFault.{EditFault}
use Rattle.alto_http.specs.Request.{RequestData}
use Rattle.alto_rows.specs.declared.resource.Resource.{Resource}
use Rattle.alto_answers.specs.declared.outcome.Answer.TheVariants as answer
use Rattle.alto_answers.specs.declared.client.Client.{Client}
use Rattle.alto_answers.specs.Answers.{AnswersTo}
use Rattle.alto_replies.specs.Replies.{edit_reply, too_early}
use Rattle.alto_replies.specs.Reply.{ReplyData}
use Rattle.alto_serve.specs.Events.{Event, looked, entered, submitted, waited, PrefixOf}

-- how a connection is served
pub record Setting : Type 0 where
  -- whom it serves
  pub client : Client
  -- the one timestamp that its clock tells, where the clock stands still
  pub fixed_time : Option ℕ
  -- whether nobody else can add imports meanwhile
  pub alone : Bool
  -- how many waits for the next edge a turn may make
  pub most_waits : ℕ

-- the setting of a connection
abbrev pub setting_of : Client → Option ℕ → Bool → ℕ → Setting
setting_of client fixed_time alone most_waits =
    record { client = client; fixed_time = fixed_time; alone = alone; most_waits = most_waits }

-- how far a turn has come
pub data Stage : Type 0 where
  -- a look is next, and this many waits are left
  looks_next : ℕ → Stage
  -- this book was looked at, and this many waits are left
  sees : ℕ → Book → Stage
  -- a book was looked at once more, to have this import accepted there
  submits : Import → Stage
  -- the import was answered, with a timestamp
  has_answer : ℕ → Result Receipt EditFault → Stage

-- an event leads a turn from one stage to the next: a look; a wait for a book with more batches, where the request
-- asks for the edge from a resource's last number to the next, which doesn't exist yet (`Hold`), and a wait is left;
-- one look more, where it brings an import (`Edit`); what becomes of that import. Any other event leads nowhere, so no
-- turn writes
abbrev pub Leads : Client → RequestData → Event → Stage → Stage → Type 0
Leads client request (looked book) (looks_next left) next = next ≡ sees left book
Leads client request (waited n) (sees left book) next =
    (fewer : ℕ) × (of : Resource) × (i : ℕ) × (j : ℕ) × (left ≡ suc fewer)
    × AnswersTo request book client (answer.Hold of i j) × (n ≡ number_of book) × (next ≡ looks_next fewer)
Leads client request (entered look) (sees left book) next =
    (import : Import) × AnswersTo request book client (answer.Edit import) × (next ≡ submits import)
Leads client request (submitted import moment decided book) (submits wanted) next =
    (import ≡ wanted) × (next ≡ has_answer moment decided)
Leads _ _ _ _ _ = ⊥

-- events lead a turn from one stage to another
abbrev pub Reaches : Client → RequestData → Stage → List Event → Stage → Type 0
Reaches client request stage [] last = stage ≡ last
Reaches client request stage (event ∷ events) last =
    (next : Stage) × Leads client request event stage next × Reaches client request next events last

-- a timestamp that the clock may have told: any, or the one of a clock that stands still
abbrev pub IsMoment : Option ℕ → ℕ → Type 0
IsMoment fixed_time moment = IfSome fixed_time (λ n. moment ≡ n)

-- at a stage with the answer to an import, its timestamp is one that the clock may have told
abbrev pub IsTimely : Option ℕ → Stage → Type 0
IsTimely fixed_time (has_answer moment decided) = IsMoment fixed_time moment
IsTimely _ _ = Unit {0}

-- events lead a turn from its beginning, where a look is next and no wait was made, to a stage; where an import was
-- answered, its timestamp is one that the clock may have told
abbrev pub ComesTo : Setting → RequestData → List Event → Stage → Type 0
ComesTo setting request events stage =
    Reaches setting.client request (looks_next setting.most_waits) events stage × IsTimely setting.fixed_time stage

-- the reply at a stage: what the request is answered at the book that was looked at; 425 where it asks for the edge
-- from the resource's last number, i, to the next, and no wait is left; or what became of its import. No other stage
-- has one
abbrev pub IsReplied : Client → RequestData → Stage → ReplyData → Type 0
IsReplied client request (sees left book) reply =
    AnswersTo request book client (answer.Reply reply)
    ⊎ ((of : Resource) × (i : ℕ) × (j : ℕ) × AnswersTo request book client (answer.Hold of i j) × (left ≡ 0)
    × (reply ≡ too_early i))
IsReplied client request (has_answer moment decided) reply = reply ≡ edit_reply decided
IsReplied _ _ _ _ = ⊥

-- a request's turn: these events lead to this reply
abbrev pub TakesTurn : Setting → RequestData → List Event → ReplyData → Type 0
TakesTurn setting request events reply =
    (stage : Stage) × ComesTo setting request events stage × IsReplied setting.client request stage reply

-- a turn in which memory ran out: these events are the first, perhaps all, of events that lead the turn to some stage
abbrev pub IsCutOff : Setting → RequestData → List Event → Type 0
IsCutOff setting request events = PrefixOf (λ all. (stage : Stage) × ComesTo setting request all stage) events

-- a request, what happened in its turn, and the reply that was written
pub record Exchange : Type 0 where
  pub request : RequestData
  pub events : List Event
  pub reply : ReplyData
