-- A book: the rows that it begins with, what is kept of the batches that led to them, and the batches since.
use Rattle.std.specs.Prelude.{◌≡◌, ℕ, ◌+◌, List, [], ◌∷◌, ◌++◌, length, map, take, drop}
use Rattle.std.specs.List.{flat_map}
use Rattle.alto_rows.specs.declared.key.Key.TheVariants as key
use Rattle.alto_rows.specs.declared.value.Value.TheVariants as value
use Rattle.alto_rows.specs.declared.write.Write.{Write}
use Rattle.alto_rows.specs.Accepted.{Accepted}
use Rattle.alto_rows.specs.Rows.{Rows, after}

-- what is kept for good of a batch: the id and the digest of its import, and its moment
pub record Kept : Type 0 where
  pub id : List ℕ
  pub digest : List ℕ
  pub moment : ℕ

-- the base rows, what is kept of the batches that led to them, and the batches since, each in order
pub record Book : Type 0 where
  pub base : Rows
  pub receipts : List Kept
  pub batches : List Accepted

-- the rows of a new book
abbrev pub opening_rows : List ℕ → ℕ → Rows
opening_rows epoch window = (key.Epoch, value.Text epoch) ∷ (key.Window, value.Num window) ∷ []

-- a new book
abbrev pub opening_book : List ℕ → ℕ → Book
opening_book epoch window = record { base = opening_rows epoch window; receipts = []; batches = [] }

-- how many batches there were, those that led to the base among them
abbrev pub number_of : Book → ℕ
number_of book = length book.receipts + length book.batches

-- what is kept of a batch
abbrev pub kept_of : Accepted → Kept
kept_of batch = record { id = batch.id; digest = batch.digest; moment = batch.moment }

-- what is kept of all batches, in order
abbrev pub all_kept : Book → List Kept
all_kept book = book.receipts ++ map kept_of book.batches

-- the writes of batches, in order
abbrev pub writes_in : List Accepted → List Write
writes_in batches = flat_map (λ batch. batch.writes) batches

-- the rows after the first n batches past the base
abbrev pub state_at : Book → ℕ → Rows
state_at book n = after book.base (writes_in (take n book.batches))

-- the rows after all batches
abbrev pub rows_of : Book → Rows
rows_of book = after book.base (writes_in book.batches)

-- the later book has the earlier one's base, receipts and batches, and perhaps more batches after them
pub record Extends (later earlier : Book) : Type 0 where
  pub base : later.base ≡ earlier.base
  pub receipts : later.receipts ≡ earlier.receipts
  pub more : List Accepted
  pub batches : later.batches ≡ earlier.batches ++ more

-- the same book with its base moved on by n batches
abbrev pub trimmed : Book → ℕ → Book
trimmed book n = record {
  base = state_at book n;
  receipts = book.receipts ++ map kept_of (take n book.batches);
  batches = drop n book.batches;
}
