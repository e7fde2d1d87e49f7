-- Which records stand for a book: the row of its epoch and window, the pieces of its base, and a row for each batch
-- behind the base.
use Rattle.std.specs.Prelude.{◌≡◌, ℕ, ◌+◌, pos, List, [], ◌∷◌, ◌++◌, map, All}
use Rattle.alto_rows.specs.Accepted.{Accepted}
use Rattle.alto_rows.specs.Rows.{Rows}
use Rattle.alto_book.specs.Book.{Book, opening_rows}
use Rattle.alto_keeper.specs.Stored.{StoredData, numbered}
use Rattle.base_code.specs.Bases.{BaseData, IsBase}
use Rattle.base_code.specs.Pieces.{base_pieces}
use Rattle.batch_code.specs.Spelling.{batch_bytes, head_bytes}
use Rattle.batch_code.specs.Storable.{IsStorable, IsHead}
use Rattle.alto_desk.specs.Ledger.{book_kept}

-- the records of a new book: its first row
abbrev pub first_records : List ℕ → ℕ → StoredData
first_records epoch window = record { base = []; rows = record { n = pos 0; bytes = head_bytes epoch window } ∷ [] }

-- the records of an epoch, a window, a base and the batches behind it: the first row has the number 0, and the batches
-- go on from the base's number
abbrev pub records_of : List ℕ → ℕ → BaseData → List Accepted → StoredData
records_of epoch window base batches = record {
  base = numbered 0 (base_pieces base);
  rows = record { n = pos 0; bytes = head_bytes epoch window } ∷ numbered (base.b + 1) (map batch_bytes batches);
}

-- the base rows of a book that began with an epoch and a window
abbrev pub base_rows : List ℕ → ℕ → BaseData → Rows
base_rows epoch window base = opening_rows epoch window ++ base.rows

-- a book that began with an epoch and a window, and has this base
abbrev pub book_from : List ℕ → ℕ → BaseData → List Accepted → Book
book_from epoch window base batches = book_kept (base_rows epoch window base) base.receipts batches

-- records stand for a book: they are those of the epoch and the window with which it began, of its base, and of its
-- batches
pub record StoredAs (stored : StoredData) (book : Book) : Type 0 where
  pub epoch : List ℕ
  pub window : ℕ
  pub base : BaseData
  pub head : IsHead epoch window
  pub is_base : IsBase base
  pub storable : All IsStorable book.batches
  pub began : book ≡ book_from epoch window base book.batches
  pub spelled : stored ≡ records_of epoch window base book.batches

-- what is held stands for a book
abbrev pub Backs : (StoredData → Type 0) → Book → Type 0
Backs holds book = (stored : StoredData) × holds stored × StoredAs stored book
