-- What a crash may leave of a desk's records.
use Rattle.std.specs.Prelude.{◌≡◌, ◌⊎◌, ℕ, ◌≤◌, length}
use Rattle.alto_rows.specs.Accepted.{Accepted}
use Rattle.alto_book.specs.Acceptance.{with_batch}
use Rattle.alto_book.specs.Book.{Book, trimmed}
use Rattle.alto_book.specs.Legal.{IsLegal}
use Rattle.alto_keeper.specs.Stored.{StoredData}
use Rattle.alto_keeper.specs.declared.keeper.Keeper.{Ghosts}
use Rattle.alto_desk.specs.Records.{Backs, StoredAs}

-- a book, the same with its base moved on, or with one batch more
abbrev pub IsOneCallFrom : Book → Book → Type 0
IsOneCallFrom book other =
    (other ≡ book)
    ⊎ (((n : ℕ) × (n ≤ length book.batches) × (other ≡ trimmed book n))
    ⊎ ((batch : Accepted) × (other ≡ with_batch book batch)))

-- records stand for a legal book that is this one, or one batch or one trim further
pub record IsNearly (book : Book) (stored : StoredData) : Type 0 where
  pub other : Book
  pub stands : StoredAs stored other
  pub legal : IsLegal other
  pub near : IsOneCallFrom book other

-- the records of a book are safe with a keeper: in no doubt they stand for it, and what a crash may leave does nearly
pub record IsSafe {K : Type 0} (g : Ghosts K) (keeper : K) (book : Book) : Type 0 where
  pub kept : g.is_clean keeper → Backs (g.holds keeper) book
  pub left : (found : StoredData) → g.may_leave keeper found → IsNearly book found
