-- What happens while a connection is served, event by event, and what is known of an office after each. An office is
-- what a connection is served through (`src/office.rt`): it gives books, each of all batches accepted by then.
use Rattle.std.specs.Prelude.{◌≡◌, ◌⊎◌, ℕ, Bool, true, false, List, [], ◌∷◌, ◌++◌, fold, Result, Err, All}
use Rattle.alto_book.specs.Acceptance.{accept}
use Rattle.alto_edits.specs.Edits.{IsEdit}
use Rattle.alto_book.specs.Book.{Book, number_of}
use Rattle.alto_book.specs.Import.{Import}
use Rattle.alto_book.specs.Legal.{IsLegal}
use Rattle.alto_book.specs.declared.command.Receipt.{Receipt}
use Rattle.alto_book.specs.declared.fault.EditFault.{EditFault}
use Rattle.alto_book.specs.declared.fault.EditFault.TheVariants as fault
use Rattle.alto_desk.specs.Counts.{after_edit}
use Rattle.alto_http.specs.Link.{one_more}

-- ---- what happens

-- one event of a connection
pub data Event : Type 0 where
  -- a book was looked at
  looked : Book → Event
  -- a book was looked at once more, to have an import accepted there
  entered : Book → Event
  -- the import was answered: its timestamp, the answer, and the book seen then
  submitted : Import → ℕ → Result Receipt EditFault → Book → Event
  -- the office waited for more batches than this number; a wait may end before there are any
  waited : ℕ → Event
  -- bytes were written
  wrote : List ℕ → Event

-- the bytes that events wrote
abbrev pub bytes_in : List Event → List ℕ
bytes_in [] = []
bytes_in (wrote bytes ∷ events) = bytes ++ bytes_in events
bytes_in (_ ∷ events) = bytes_in events

-- one look at this book
abbrev pub OneLook : Book → List Event → Type 0
OneLook book events = events ≡ looked book ∷ []

-- one wait for more batches than a number
abbrev pub OneWait : ℕ → List Event → Type 0
OneWait n events = events ≡ waited n ∷ []

-- an import with a timestamp is answered, at a book that is looked at once more for it
abbrev pub Submits : Import → ℕ → Result Receipt EditFault → List Event → Type 0
Submits import moment answer events =
    (look : Book) × (after : Book) × (events ≡ entered look ∷ submitted import moment answer after ∷ [])

-- an import with a timestamp is answered, no matter how
abbrev pub IsSubmitted : Import → ℕ → List Event → Type 0
IsSubmitted import moment events = (answer : Result Receipt EditFault) × Submits import moment answer events

-- these events are a prefix of events of which P holds: what came about where memory ran out
abbrev pub PrefixOf : (List Event → Type 0) → List Event → Type 0
PrefixOf P events = (rest : List Event) × P (events ++ rest)

-- ---- what is known

-- what is known of an office
pub record Known : Type 0 where
  -- the book that was seen last
  pub seen : Book
  -- how often a book was looked at, or looked at once more for an import
  pub looks : ℕ
  -- how often it was waited
  pub waits : ℕ
  -- how often a batch couldn't be stored
  pub faults : ℕ
  -- the numbers of the books that were looked at, one for each `looked`; none is listed where nobody else can add
  -- imports (`listed`)
  pub looked_at : List ℕ

-- what is known of an office at first
abbrev pub at_first : Book → Known
at_first book = record { seen = book; looks = 0; waits = 0; faults = 0; looked_at = [] }

-- numbers with that of a book. None is listed where nobody else can add imports: a look shows the book seen before
abbrev pub listed : Bool → List ℕ → Book → List ℕ
listed true numbers book = numbers
listed false numbers book = numbers ++ number_of book ∷ []

-- what is known after an event. A batch that couldn't be stored is counted (`after_edit`). `alone` tells that nobody
-- else can add imports while the connection is served
abbrev pub known_after : Bool → Known → Event → Known
known_after alone known (looked book) =
    record known { seen = book; looks = one_more known.looks; looked_at = listed alone known.looked_at book }
known_after alone known (entered book) = record known { seen = book; looks = one_more known.looks }
known_after alone known (submitted import moment answer book) =
    record known { seen = book; faults = after_edit answer known.faults }
known_after alone known (waited n) = record known { waits = one_more known.waits }
known_after alone known (wrote bytes) = known

-- ---- what may happen

-- a book after an import with a timestamp, whether it is accepted or refused
abbrev pub book_after : Book → Import × ℕ → Book
book_after book (import, moment) = (accept book import moment).book

-- the later book is what the earlier one becomes by some imports with their timestamps, each of them accepted whole or
-- refused; each of their edits has names that are well formed and values in their ranges (`IsEdit`)
pub record IsGrown (later earlier : Book) : Type 0 where
  pub imports : List (Import × ℕ)
  pub edits : All (λ import. All IsEdit import.0.edits) imports
  pub whole : later ≡ fold book_after earlier imports

-- a book that may be seen next: it is legal, and the one that was seen or one that grew from it. Where nobody else can
-- add imports, it is the one that was seen
pub record IsLook (alone : Bool) (seen look : Book) : Type 0 where
  pub legal : IsLegal look
  pub grown : IsGrown look seen
  pub same : alone ≡ true → look ≡ seen

-- an event may happen where this book was seen last. A look shows a book that may be seen next. An import is accepted
-- or refused at the book seen last, or its batch couldn't be stored; then a book is seen that may be seen next. A wait
-- and a write may always happen
abbrev pub MayHappen : Bool → Book → Event → Type 0
MayHappen alone seen (looked book) = IsLook alone seen book
MayHappen alone seen (entered book) = IsLook alone seen book
MayHappen alone seen (submitted import moment answer book) =
    (All IsEdit import.edits × ((accept seen import moment).answer ≡ answer)
    × IsLook alone (accept seen import moment).book book)
    ⊎ ((answer ≡ Err fault.Keeper) × IsLook alone seen book)
MayHappen alone seen (waited n) = Unit {0}
MayHappen alone seen (wrote bytes) = Unit {0}

-- each event may happen after those before it, from what was known
abbrev pub IsHistory : Bool → Known → List Event → Type 0
IsHistory alone known [] = Unit {0}
IsHistory alone known (event ∷ events) =
    MayHappen alone known.seen event × IsHistory alone (known_after alone known event) events

-- an office emits events of which P holds: they may happen, and lead from what was known to what is known
abbrev pub Emits : Bool → (List Event → Type 0) → Known → Known → Type 0
Emits alone P before after =
    (events : List Event) × IsHistory alone before events × (after ≡ fold (known_after alone) before events) × P events
