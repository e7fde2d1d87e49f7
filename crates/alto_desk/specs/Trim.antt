-- A book whose base moves on, so that the records of its older batches go, and the base that is stored then.
use Rattle.std.specs.Prelude.{ℕ, ◌-◌, max, Bool, true, false, not, length, map, filter}
use Rattle.alto_rows.specs.declared.key.Key.{Key}
use Rattle.alto_rows.specs.declared.key.Key.TheVariants as key
use Rattle.alto_book.specs.Book.{Book, Kept, number_of, trimmed}
use Rattle.base_code.specs.Bases.{BaseData, KeptData}

-- the number to which a book is trimmed that is to keep so many batches: that of the batch before them, or its base's,
-- where that is higher
abbrev pub trim_number : Book → ℕ → ℕ
trim_number book keep = max (length book.receipts) (number_of book - keep)

-- a book trimmed to a number: its base has moved on to it
abbrev pub trim : Book → ℕ → Book
trim book number = trimmed book (number - length book.receipts)

-- ---- the stored base

-- the key of a row that each book begins with
abbrev pub is_opening : Key → Bool
is_opening key.Epoch = true
is_opening key.Window = true
is_opening _ = false

-- the receipt of what a book keeps
abbrev pub kept_data : Kept → KeptData
kept_data kept = record { id = kept.id; digest = kept.digest; moment = kept.moment }

-- the base of a book, as it is stored: without the epoch and the window
abbrev pub base_of : Book → BaseData
base_of book = record {
  b = length book.receipts;
  receipts = map kept_data book.receipts;
  rows = filter (λ row. not (is_opening row.0)) book.base;
}
