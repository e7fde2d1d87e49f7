-- What a ledger keeps beside its batches.
use Rattle.std.specs.Prelude.{◌≡◌, ◌<◌, ◌++◌, ℕ, List, Option, Some, cond, length, map, slice_get}
use Rattle.std.specs.BTreeMap.{is_at}
use Rattle.std.specs.Map.{lookup}
use Rattle.alto_rows.specs.Accepted.{Accepted}
use Rattle.alto_rows.specs.Order.{name_cmp}
use Rattle.alto_rows.specs.Rows.{Rows}
use Rattle.alto_book.specs.Book.{Book, Kept, all_kept, kept_of, number_of, writes_in}
use Rattle.alto_book.specs.Legal.{IsLegal}
use Rattle.alto_versions.specs.Course.{CourseData, Follows}
use Rattle.alto_versions.specs.Front.{Version, StandsFor}
use Rattle.base_code.specs.Bases.{KeptData}

-- ---- places

-- the ids that have places, with their places
abbrev pub Places : Type 0
Places = List (List ℕ × ℕ)

-- the place of an id
abbrev pub place_of : Places → List ℕ → Option ℕ
place_of places id = lookup (is_at (name_cmp id)) places

-- the later places are the earlier ones, with this one for an id
abbrev pub HasPut : Places → Places → List ℕ → ℕ → Type 0
HasPut earlier later id place =
    (other : List ℕ) → place_of later other ≡ cond (is_at (name_cmp id) other) (Some place) (place_of earlier other)

-- each id that is kept has its place, from 0; other ids may have places too
abbrev pub ArePlaced : List Kept → Places → Type 0
ArePlaced kept places = (n : ℕ) (one : Kept) → slice_get kept n ≡ Some one → place_of places one.id ≡ Some n

-- ---- books

-- a book, how many batches there is room for, and the places of ids
pub record LedgerData : Type 0 where
  pub book : Book
  pub room : ℕ
  pub places : Places

-- there is room for a batch with this id, which has the next place
pub record HasRoom (ledger : LedgerData) (id : List ℕ) : Type 0 where
  pub room : length ledger.book.batches < ledger.room
  pub place : place_of ledger.places id ≡ Some (number_of ledger.book)

-- what a book keeps of a batch whose receipt this is
abbrev pub receipt_of : KeptData → Kept
receipt_of kept = record { id = kept.id; digest = kept.digest; moment = kept.moment }

-- what is kept of the batches of receipts, and of those behind them
abbrev pub kept_in : List KeptData → List Accepted → List Kept
kept_in receipts batches = map receipt_of receipts ++ map kept_of batches

-- the book of base rows, the receipts of the batches that led to them, and the batches since
abbrev pub book_kept : Rows → List KeptData → List Accepted → Book
book_kept base receipts batches = record { base = base; receipts = map receipt_of receipts; batches = batches }

-- the book is legal, its ids have their places, the count of writes is that of its batches, and the version at hand is
-- the book's
pub record Keeps (book : Book) (places : Places) (writes : ℕ) (version : Version) : Type 0 where
  pub legal : IsLegal book
  pub placed : ArePlaced (all_kept book) places
  pub counted : writes ≡ length (writes_in book.batches)
  pub stands : StandsFor version book

-- the same of a book that is being read, whose version has no range tables yet
pub record HasRead (book : Book) (places : Places) (writes : ℕ) (course : CourseData) : Type 0 where
  pub legal : IsLegal book
  pub placed : ArePlaced (all_kept book) places
  pub counted : writes ≡ length (writes_in book.batches)
  pub follows : Follows course book
