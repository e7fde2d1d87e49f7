-- Which books can come about.
use Rattle.std.specs.Prelude.{◌≡◌, ℕ, ◌≤◌, ◌<◌, ◌^◌, Bool, true, false, not, List, ◌++◌, length, Some, All, map, filter}
use Rattle.std.specs.Prelude.{slice_get}
use Rattle.std.specs.List.{IsDistinct}
use Rattle.alto_rows.specs.declared.key.Key.{Key}
use Rattle.alto_rows.specs.declared.key.Key.TheVariants as key
use Rattle.alto_rows.specs.declared.resource.Resource.{Resource}
use Rattle.alto_rows.specs.declared.write.Write.{Write}
use Rattle.alto_rows.specs.Accepted.{Accepted}
use Rattle.alto_rows.specs.Good.{AreGood}
use Rattle.alto_rows.specs.Order.{same_name}
use Rattle.alto_rows.specs.Rows.{Rows, after}
use Rattle.alto_rows.specs.Versions.{version_of}
use Rattle.alto_edits.specs.Laws.{FitsBatch}
use Rattle.alto_edits.specs.Limits.{AreWithin}
use Rattle.alto_edits.specs.Versions.{sequence_writes}
use Rattle.alto_book.specs.Book.{Kept, Book, all_kept, state_at, writes_in}

-- the key of a version
abbrev pub is_version : Key → Bool
is_version (key.Seq of) = true
is_version _ = false

-- the writes that edits made, of those of a batch: all but the version rows
abbrev pub edits_in : List Write → List Write
edits_in writes = filter (λ write. not (is_version write.key)) writes

-- a batch that may follow the rows: each write fits, the version rows are exactly those of the other writes and stand
-- behind them (B3), the rows after it are good (B4), and they and its writes are within the limits (B5)
pub record Follows (rows : Rows) (batch : Accepted) : Type 0 where
  pub fit : All FitsBatch batch.writes
  pub whole : batch.writes ≡ edits_in batch.writes ++ sequence_writes rows (edits_in batch.writes)
  pub good : AreGood (after rows batch.writes)
  pub within : AreWithin (after rows batch.writes)
  pub few : length batch.writes ≤ 16384

-- base rows to which so many batches led: they are good and within the limits, and no version is above that number (B6)
pub record IsBase (rows : Rows) (number : ℕ) : Type 0 where
  pub good : AreGood rows
  pub within : AreWithin rows
  pub versions : (of : Resource) → version_of rows of ≤ number

-- moments that never fall
abbrev pub NeverFall : List Kept → Type 0
NeverFall kept = (m n : ℕ) (earlier later : Kept) → m ≤ n → slice_get kept m ≡ Some earlier
    → slice_get kept n ≡ Some later → earlier.moment ≤ later.moment

-- a book that accepting imports may have led to: a base, batches each of which may follow the rows before it, ids that
-- are all different (B1, B6), moments that never fall (B2, B6), and no more past the base than may be kept (B5)
pub record IsLegal (book : Book) : Type 0 where
  pub base : IsBase book.base (length book.receipts)
  pub small : length book.receipts < 2 ^ 62
  pub each : (n : ℕ) (batch : Accepted) → slice_get book.batches n ≡ Some batch → Follows (state_at book n) batch
  pub ids : IsDistinct same_name (map (λ kept. kept.id) (all_kept book))
  pub moments : NeverFall (all_kept book)
  pub batches : length book.batches ≤ 4096
  pub writes : length (writes_in book.batches) ≤ 524288
