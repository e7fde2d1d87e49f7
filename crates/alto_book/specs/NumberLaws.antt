-- What holds of the numbers that batches give resources: the statements of the laws.
use Rattle.std.specs.Prelude.{◌≡◌, ℕ, ◌+◌, ◌-◌, ◌≤◌, ◌<◌, true, false, List, [], length, take, drop, Option, Some, None}
use Rattle.std.specs.Prelude.{slice_get}
use Rattle.std.specs.List.{flat_map}
use Rattle.alto_rows.specs.declared.key.Key.TheVariants as key
use Rattle.alto_rows.specs.declared.resource.Resource.{Resource}
use Rattle.alto_rows.specs.declared.resource.Resource.TheVariants as resource
use Rattle.alto_rows.specs.Accepted.{Accepted}
use Rattle.alto_rows.specs.Good.{AreGood}
use Rattle.alto_rows.specs.Rows.{has_row}
use Rattle.alto_rows.specs.Versions.{is_declared, version_of}
use Rattle.alto_edits.specs.Versions.{is_written}
use Rattle.net_docs.specs.NetworkMap.{network_map}
use Rattle.net_docs.specs.Differ.{DifferBy}
use Rattle.tips_graph.specs.declared.status.EdgeStatus.TheVariants.{Here}
use Rattle.tips_graph.specs.Edges.{recommended_edge}
use Rattle.tips_graph.specs.Graph.{GraphData, first_of, last_of, keeps, span_of, status_of}
use Rattle.tips_graph.specs.Graph.{rows_at as graph_rows}
use Rattle.tips_graph.specs.Keys.{key_set}
use Rattle.alto_book.specs.Book.{Book, Extends, state_at, rows_of, trimmed}
use Rattle.alto_book.specs.Legal.{IsLegal}
use Rattle.alto_book.specs.Numbers.{gives, rows_at, touching, keys_between, pushes_of, origin_of, floor_of}
use Rattle.alto_book.specs.Numbers.{updates_graph, first_kept, status_at, recommended}

-- ---- each number

-- one batch of the book gives a resource this number
pub record IsGivenOnce (book : Book) (of : Resource) (number : ℕ) : Type 0 where
  pub place : ℕ
  pub batch : Accepted
  pub there : slice_get book.batches place ≡ Some batch
  pub given : gives of number batch ≡ true
  pub only : (n : ℕ) (other : Accepted) → slice_get book.batches n ≡ Some other → gives of number other ≡ true
      → n ≡ place

-- each number above that of the base, up to the version, is given once
abbrev pub EachNumberIsGivenOnce : Type 0
EachNumberIsGivenOnce = (book : Book) (of : Resource) (number : ℕ) → IsLegal book → version_of book.base of < number
    → number ≤ version_of (rows_of book) of → IsGivenOnce book of number

-- a later batch gives a resource a higher number, also where it was withdrawn between
abbrev pub NoNumberTwice : Type 0
NoNumberTwice = (book : Book) (of : Resource) (m n : ℕ) (earlier later : Accepted) (low high : ℕ) → IsLegal book → m < n
    → slice_get book.batches m ≡ Some earlier → slice_get book.batches n ≡ Some later
    → gives of low earlier ≡ true → gives of high later ≡ true → low < high

-- a number that a batch gives is one more than the version before the batch, and is the version after it
abbrev pub GivenNumberIsNext : Type 0
GivenNumberIsNext = (book : Book) (of : Resource) (number n : ℕ) (batch : Accepted) → IsLegal book
    → slice_get book.batches n ≡ Some batch → gives of number batch ≡ true
    → (number ≡ version_of (state_at book n) of + 1) × (version_of (state_at book (n + 1)) of ≡ number)

-- a batch that writes a key that touches a resource gives it a number, where it is declared afterwards
abbrev pub TouchedResourcesGetNumbers : Type 0
TouchedResourcesGetNumbers = (book : Book) (of : Resource) (n : ℕ) (batch : Accepted) → IsLegal book
    → slice_get book.batches n ≡ Some batch → is_declared (state_at book (n + 1)) of ≡ true
    → is_written batch.writes of ≡ true → gives of (version_of (state_at book (n + 1)) of) batch ≡ true

-- ---- the pushes

-- there is one for each number from the first
abbrev pub PushesAreNumbered : Type 0
PushesAreNumbered = (book : Book) (of : Resource) → IsLegal book
    → length (pushes_of book of) + origin_of book of ≡ version_of (rows_of book) of + 1

-- the push of a number that a batch gave has the rows at the number, and the keys of the batch
abbrev pub PushIsOfItsBatch : Type 0
PushIsOfItsBatch = (book : Book) (of : Resource) (number n : ℕ) (batch : Accepted) → IsLegal book
    → slice_get book.batches n ≡ Some batch → gives of number batch ≡ true
    → slice_get (pushes_of book of) (number - origin_of book of)
    ≡ Some (record { rows = rows_at book of number; keys = key_set (touching of batch.writes) })

-- two numbers of a declared resource between which it wasn't withdrawn
pub record AreNumbers (book : Book) (of : Resource) (i j : ℕ) : Type 0 where
  pub legal : IsLegal book
  pub declared : is_declared (rows_of book) of ≡ true
  pub from : floor_of book of ≤ i
  pub rise : i ≤ j
  pub upto : j ≤ version_of (rows_of book) of

-- behind the lowest number, the keys of a push are those between the number before and its own
abbrev pub PushIsOfItsStep : Type 0
PushIsOfItsStep = (book : Book) (of : Resource) (i : ℕ) → AreNumbers book of i (i + 1)
    → slice_get (pushes_of book of) (i + 1 - origin_of book of)
    ≡ Some (record { rows = rows_at book of (i + 1); keys = keys_between book of i (i + 1) })

-- the keys between two numbers are those of the pushes after the one, up to the other
abbrev pub KeysAreThoseOfThePushes : Type 0
KeysAreThoseOfThePushes = (book : Book) (of : Resource) (i j : ℕ) → AreNumbers book of i j
    → keys_between book of i j
    ≡ key_set (flat_map (λ push. push.keys) (take (j - i) (drop (i + 1 - origin_of book of) (pushes_of book of))))

-- ---- what stays as the book goes on

-- the rows at a number
abbrev pub RowsAtStay : Type 0
RowsAtStay = (earlier later : Book) (of : Resource) (number : ℕ)
    → IsLegal earlier → IsLegal later → Extends later earlier
    → origin_of earlier of ≤ number → number ≤ version_of (rows_of earlier) of
    → rows_at later of number ≡ rows_at earlier of number

-- the keys between two numbers
abbrev pub KeysBetweenStay : Type 0
KeysBetweenStay = (earlier later : Book) (of : Resource) (i j : ℕ)
    → IsLegal earlier → IsLegal later → Extends later earlier
    → origin_of earlier of ≤ i → i ≤ version_of (rows_of earlier) of
    → origin_of earlier of ≤ j → j ≤ version_of (rows_of earlier) of
    → keys_between later of i j ≡ keys_between earlier of i j

-- the first number that is kept never falls
abbrev pub FirstKeptNeverFalls : Type 0
FirstKeptNeverFalls = (earlier later : Book) (of : Resource) → IsLegal earlier → IsLegal later → Extends later earlier
    → first_kept earlier of ≤ first_kept later of

-- ---- what changes between two numbers

-- a batch that writes no key of a network map leaves the map
abbrev pub UntouchedMapStays : Type 0
UntouchedMapStays = (book : Book) (net : List ℕ) (n : ℕ) (batch : Accepted) → IsLegal book
    → slice_get book.batches n ≡ Some batch → is_written batch.writes (resource.Net net) ≡ false
    → network_map (state_at book (n + 1)) net ≡ network_map (state_at book n) net

-- so the map at the last number is the map of the rows now
abbrev pub LastNumberIsNow : Type 0
LastNumberIsNow = (book : Book) (net : List ℕ) → IsLegal book → has_row (rows_of book) (key.Net net) ≡ true
    → network_map (rows_at book (resource.Net net) (version_of (rows_of book) (resource.Net net))) net
    ≡ network_map (rows_of book) net

-- the rows at two numbers differ by the keys between them, where the first declare the resource: all do but perhaps a
-- base
abbrev pub NumbersDifferByKeys : Type 0
NumbersDifferByKeys = (book : Book) (of : Resource) (i j : ℕ) → IsLegal book
    → origin_of book of ≤ i → i ≤ j → j ≤ version_of (rows_of book) of → is_declared (rows_at book of i) of ≡ true
    → DifferBy (keys_between book of i j) (rows_at book of i) (rows_at book of j) of

-- ---- a base that moves on

-- a book and the same with its base moved on: the numbers of a declared resource that the later keeps, the earlier
-- kept, with the same keys between them. The rows at those above its base's are the same; those of its base may come of
-- more batches than those at its number, none of which changed the resource
pub record KeepsNumbers (earlier later : Book) (of : Resource) : Type 0 where
  pub first : first_kept earlier of ≤ first_kept later of
  pub here : (i j : ℕ) → status_at later of i j ≡ Here → status_at earlier of i j ≡ Here
  pub rows : (number : ℕ) → version_of later.base of < number → number ≤ version_of (rows_of later) of
      → rows_at later of number ≡ rows_at earlier of number
  pub base : (number : ℕ) → first_kept later of ≤ number → version_of later.base of ≡ number
      → DifferBy [] (rows_at earlier of number) (rows_at later of number) of
  pub keys : (i j : ℕ) → first_kept later of ≤ i → i ≤ j → j ≤ version_of (rows_of later) of
      → keys_between later of i j ≡ keys_between earlier of i j

abbrev pub TrimKeepsNumbers : Type 0
TrimKeepsNumbers = (book : Book) (n : ℕ) (of : Resource) → IsLegal book → n ≤ length book.batches
    → is_declared (rows_of book) of ≡ true → KeepsNumbers book (trimmed book n) of

-- ---- the updates graph

-- a graph tells of a resource what the book does: the numbers that it keeps, whether an edge can be had, which edge is
-- recommended, the rows at each kept number, which are good and declare the resource, and the keys of each edge that
-- can be had
pub record TellsNumbers (graph : GraphData) (book : Book) (of : Resource) : Type 0 where
  pub some : 0 < last_of graph
  pub last : last_of graph ≡ version_of (rows_of book) of
  pub reached : graph.last ≡ version_of (rows_of book) of
  pub first : first_of graph ≡ first_kept book of
  pub status : (i j : ℕ) → status_of graph i j ≡ status_at book of i j
  pub recommended : (held : Option ℕ)
      → recommended_edge (first_of graph) (last_of graph) held ≡ recommended book of held
  pub leads : (i j : ℕ) → status_at book of i j ≡ Here → keeps graph j ≡ true
  pub begins : (i j : ℕ) → 1 ≤ i → status_at book of i j ≡ Here → keeps graph i ≡ true
  pub rows : (number : ℕ) → keeps graph number ≡ true → graph_rows graph number ≡ Some (rows_at book of number)
  pub good : (number : ℕ) → AreGood (rows_at book of number)
  pub declared : (number : ℕ) → keeps graph number ≡ true → is_declared (rows_at book of number) of ≡ true
  pub snapshot : (j : ℕ) → span_of graph 0 j ≡ None
  pub step : (i j : ℕ) → 1 ≤ i → status_at book of i j ≡ Here → span_of graph i j ≡ Some (keys_between book of i j)

-- so does the updates graph of a declared resource
abbrev pub GraphTellsNumbers : Type 0
GraphTellsNumbers = (book : Book) (of : Resource) → IsLegal book → is_declared (rows_of book) of ≡ true
    → TellsNumbers (updates_graph book of) book of
