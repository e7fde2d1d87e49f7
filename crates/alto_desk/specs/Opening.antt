-- Why no book is opened of records: a row or a piece of the base isn't in its place, the base breaks its rule, or a
-- batch breaks a rule of the book before it.
use Rattle.std.specs.Prelude.{◌≡◌, ◌⊎◌, ℕ, ◌+◌, ◌≤◌, pos, List, [], ◌∷◌, ◌++◌}
use Rattle.std.specs.Prelude.{length, map, take, Some, None, slice_get, All, ⊤}
use Rattle.alto_rows.specs.Accepted.{Accepted}
use Rattle.alto_book.specs.Acceptance.{known, last_moment, past_of}
use Rattle.alto_book.specs.Book.{Book, all_kept, rows_of}
use Rattle.alto_book.specs.Legal.{IsLegal}
use Rattle.alto_keeper.specs.Stored.{RowData, StoredData, numbered}
use Rattle.base_check.specs.Rules.{KeepsRule}
use Rattle.base_code.specs.Bases.{BaseData, IsBase}
use Rattle.base_code.specs.Faults.{AreInPlace}
use Rattle.base_code.specs.Pieces.{base_pieces}
use Rattle.batch_check.specs.Rules.{Breaks}
use Rattle.batch_check.specs.declared.rule.BookRule.{BookRule}
use Rattle.batch_check.specs.declared.rule.BookRule.TheVariants as rule
use Rattle.batch_check.specs.declared.rule.CheckFault.{CheckFault}
use Rattle.batch_check.specs.declared.rule.CheckFault.TheVariants as check
use Rattle.batch_code.specs.Faults.{IsBatch, IsRowZero}
use Rattle.batch_code.specs.Storable.{IsStorable, IsHead}
use Rattle.alto_desk.specs.Records.{base_rows, book_from, records_of}
use Rattle.alto_desk.specs.declared.fault.OpenFault.{OpenFault}
use Rattle.alto_desk.specs.declared.fault.OpenFault.TheVariants as fault

-- ---- the first row

-- a row of an epoch and a window, under the number 0
abbrev pub IsHeadRow : RowData → Type 0
IsHeadRow row = (row.n ≡ pos 0) × IsRowZero row.bytes

-- rows that don't begin with one
abbrev pub AreHeadless : List RowData → Type 0
AreHeadless [] = ⊤
AreHeadless (row ∷ rows) = ¬ IsHeadRow row

-- ---- the base

-- the bytes of rows
abbrev pub texts_of : List RowData → List (List ℕ)
texts_of rows = map (λ row. row.bytes) rows

-- each row is a piece of a base in its place, under the number of its place
pub record ArePieces (rows : List RowData) : Type 0 where
  pub numbers : rows ≡ numbered 0 (texts_of rows)
  pub in_place : AreInPlace (texts_of rows)

-- the rows are those of this base
pub record AreOf (rows : List RowData) (base : BaseData) : Type 0 where
  pub is_base : IsBase base
  pub pieces : rows ≡ numbered 0 (base_pieces base)

-- the rows are no base's, and the longest prefix of them in which each is a piece in its place has `place` rows: so the
-- one at `place` is the first that isn't, or, where there is none, more are wanted
pub record IsDamagedPiece (rows : List RowData) (place : ℕ) : Type 0 where
  pub no_base : (base : BaseData) → ¬ AreOf rows base
  pub within : place ≤ length rows
  pub before : ArePieces (take place rows)
  pub longest : (n : ℕ) → n ≤ length rows → ArePieces (take n rows) → n ≤ place

-- why rows are no base's
abbrev pub TellsBase : OpenFault → List RowData → Type 0
TellsBase (fault.DamagedBase place) rows = IsDamagedPiece rows place
TellsBase fault.Memory rows = ⊤
TellsBase _ rows = ⊥

-- ---- the rows behind the first

-- the row of the batch with this number
abbrev pub IsBatchRow : ℕ → RowData → Type 0
IsBatchRow n row = (row.n ≡ pos n) × IsBatch row.bytes

-- the rows before this place are those of the batches behind base b, and the row here isn't that of the batch n
pub record IsDamagedAt (b : ℕ) (rows : List RowData) (n : ℕ) : Type 0 where
  pub earlier : List RowData
  pub row : RowData
  pub later : List RowData
  pub parts : rows ≡ earlier ++ row ∷ later
  pub number : n ≡ b + 1 + length earlier
  pub sound : (k : ℕ) (one : RowData) → slice_get earlier k ≡ Some one → IsBatchRow (b + 1 + k) one
  pub unsound : ¬ IsBatchRow n row

-- why a row isn't that of the batch with a number
abbrev pub TellsRow : OpenFault → ℕ → RowData → Type 0
TellsRow (fault.Damaged n) number row = (n ≡ number) × ¬ IsBatchRow number row
TellsRow fault.Memory number row = ⊤
TellsRow _ number row = ⊥

-- why rows behind the first aren't those of batches
abbrev pub TellsRows : OpenFault → ℕ → List RowData → Type 0
TellsRows (fault.Damaged n) b rows = IsDamagedAt b rows n
TellsRows fault.Memory b rows = ⊤
TellsRows _ b rows = ⊥

-- why a row isn't that of an epoch and a window
abbrev pub TellsHead : OpenFault → RowData → Type 0
TellsHead (fault.Damaged n) row = (n ≡ 0) × ¬ IsHeadRow row
TellsHead fault.Memory row = ⊤
TellsHead _ row = ⊥

-- records that begin with the row of an epoch and a window, and have the pieces of a base: the row with this number is
-- the first behind it that isn't in its place
pub record IsDamagedBehind (stored : StoredData) (n : ℕ) : Type 0 where
  pub first : RowData
  pub rest : List RowData
  pub rows : stored.rows ≡ first ∷ rest
  pub head : IsHeadRow first
  pub base : BaseData
  pub whole : AreOf stored.base base
  pub damaged : IsDamagedAt base.b rest n

-- ---- the base and the batches

-- an id that no batch of a book has
abbrev pub IsNew : Book → Accepted → Type 0
IsNew book batch = known (all_kept book) batch.id ≡ None

-- a timestamp that isn't below that of a book's last batch
abbrev pub IsLater : Book → Accepted → Type 0
IsLater book batch = last_moment (all_kept book) ≤ batch.moment

-- the first rule that a batch breaks behind a book
abbrev pub BreaksRule : BookRule → Book → Accepted → Type 0
BreaksRule rule.B1 book batch = ¬ IsNew book batch
BreaksRule rule.B2 book batch = IsNew book batch × ¬ IsLater book batch
BreaksRule broken book batch =
    IsNew book batch × IsLater book batch × Breaks broken (rows_of book) batch.writes (past_of book)

-- why a batch doesn't follow a book
abbrev pub ExplainsBatch : CheckFault → Book → Accepted → Type 0
ExplainsBatch (check.Bad broken) book batch = BreaksRule broken book batch
ExplainsBatch check.Memory book batch = ⊤

-- a base that breaks its rule, which is told with the number 0
pub record IsBrokenBase (epoch : List ℕ) (window : ℕ) (base : BaseData) (n : ℕ) (broken : BookRule) : Type 0 where
  pub number : n ≡ 0
  pub is_base_rule : broken ≡ rule.B6
  pub breaks : ¬ KeepsRule (base_rows epoch window base) base.receipts

-- batches of which the one with this number is the first that breaks a rule, and which rule it breaks
pub record IsFirstBroken (epoch : List ℕ) (window : ℕ) (base : BaseData) (batches : List Accepted) (n : ℕ)
    (broken : BookRule) : Type 0 where
  pub earlier : List Accepted
  pub batch : Accepted
  pub later : List Accepted
  pub parts : batches ≡ earlier ++ batch ∷ later
  pub number : n ≡ base.b + length earlier + 1
  pub legal : IsLegal (book_from epoch window base earlier)
  pub breaks : BreaksRule broken (book_from epoch window base earlier) batch

-- the fault of a base or a batch with a number
abbrev pub fault_at : ℕ → CheckFault → OpenFault
fault_at n (check.Bad broken) = fault.BadBook n broken
fault_at n check.Memory = fault.Memory

-- why a base and batches make no book
abbrev pub TellsBroken : OpenFault → List ℕ → ℕ → BaseData → List Accepted → Type 0
TellsBroken (fault.BadBook n broken) epoch window base batches =
    IsBrokenBase epoch window base n broken ⊎ IsFirstBroken epoch window base batches n broken
TellsBroken fault.Memory epoch window base batches = ⊤
TellsBroken _ epoch window base batches = ⊥

-- ---- all of it

-- records that spell a base and batches, of which the base, or else the first batch that does so, breaks a rule
pub record IsBadBook (stored : StoredData) (n : ℕ) (broken : BookRule) : Type 0 where
  pub epoch : List ℕ
  pub window : ℕ
  pub base : BaseData
  pub batches : List Accepted
  pub head : IsHead epoch window
  pub is_base : IsBase base
  pub storable : All IsStorable batches
  pub spelled : stored ≡ records_of epoch window base batches
  pub first : IsBrokenBase epoch window base n broken ⊎ IsFirstBroken epoch window base batches n broken

-- why no book is opened of records. The first row goes before the base, the base before the other rows, and all rows
-- before the rules
abbrev pub Explains : OpenFault → StoredData → Type 0
Explains (fault.Damaged n) stored = ((n ≡ 0) × AreHeadless stored.rows) ⊎ IsDamagedBehind stored n
Explains (fault.DamagedBase place) stored = (¬ AreHeadless stored.rows) × IsDamagedPiece stored.base place
Explains (fault.BadBook n broken) stored = IsBadBook stored n broken
Explains fault.Keeper stored = ⊤
Explains fault.Memory stored = ⊤
