-- What holds of every book, whatever imports come: the statements of the laws.
use Rattle.std.specs.Prelude.{◌≡◌, ℕ, ◌+◌, ◌≤◌, ◌<◌, ◌^◌, List, length, All, IfErr, Some, Ok, Err, ⊤, slice_get}
use Rattle.alto_names.specs.Name.{IsEpoch}
use Rattle.alto_rows.specs.declared.resource.Resource.{Resource}
use Rattle.alto_rows.specs.Accepted.{Accepted}
use Rattle.alto_rows.specs.Good.{AreGood}
use Rattle.alto_rows.specs.Versions.{version_of}
use Rattle.alto_edits.specs.Edits.{IsEdit}
use Rattle.alto_edits.specs.Laws.{FitsBatch}
use Rattle.alto_edits.specs.Limits.{AreWithin}
use Rattle.alto_book.specs.declared.command.Receipt.{Receipt}
use Rattle.alto_book.specs.declared.fault.EditFault.{EditFault}
use Rattle.alto_book.specs.declared.fault.EditFault.TheVariants as fault
use Rattle.alto_book.specs.Acceptance.{known, accept}
use Rattle.alto_book.specs.Book.{Kept, Book, Extends, opening_book, number_of, all_kept, state_at, rows_of, trimmed}
use Rattle.alto_book.specs.Import.{Import}
use Rattle.alto_book.specs.Legal.{IsLegal}

-- a new book is legal
abbrev pub OpeningIsLegal : Type 0
OpeningIsLegal = (epoch : List ℕ) (window : ℕ) → IsEpoch epoch → 2 ≤ window → window ≤ 32
    → IsLegal (opening_book epoch window)

-- accepting an import keeps a book legal
abbrev pub AcceptanceKeepsLegal : Type 0
AcceptanceKeepsLegal = (book : Book) (import : Import) (moment : ℕ) → IsLegal book → All IsEdit import.edits
    → IsLegal (accept book import moment).book

-- accepting an import leaves the batches that there were
abbrev pub AcceptanceExtends : Type 0
AcceptanceExtends = (book : Book) (import : Import) (moment : ℕ) → Extends (accept book import moment).book book

-- a book extends itself
abbrev pub BookExtendsItself : Type 0
BookExtendsItself = (book : Book) → Extends book book

-- what extends a later book extends the earlier one
abbrev pub ExtendingGoesOn : Type 0
ExtendingGoesOn = (first second third : Book) → Extends second first → Extends third second → Extends third first

-- a refused import leaves the book as it was
abbrev pub RefusalChangesNothing : Type 0
RefusalChangesNothing = (book : Book) (import : Import) (moment : ℕ) (why : EditFault)
    → (accept book import moment).answer ≡ Err why → (accept book import moment).book ≡ book

-- a fault of the import itself: its id has another body, or its edits break a rule
abbrev pub IsOfImport : EditFault → Type 0
IsOfImport (fault.OtherBody n) = ⊤
IsOfImport (fault.Broken row rule) = ⊤
IsOfImport fault.Keeper = ⊥
IsOfImport fault.Memory = ⊥

-- an import is refused for its own fault alone
abbrev pub RefusalIsOfTheImport : Type 0
RefusalIsOfTheImport = (book : Book) (import : Import) (moment : ℕ)
    → IfErr (accept book import moment).answer IsOfImport

-- an import whose id has a batch leaves the book as it was
abbrev pub KnownIdChangesNothing : Type 0
KnownIdChangesNothing = (book : Book) (import : Import) (moment : ℕ) (numbered : ℕ × Kept)
    → known (all_kept book) import.id ≡ Some numbered → (accept book import moment).book ≡ book

-- an import that was accepted is told the same receipt again, whatever was accepted since, and changes nothing then
abbrev pub ReceiptIsKept : Type 0
ReceiptIsKept = (book later : Book) (import : Import) (moment again : ℕ) (receipt : Receipt)
    → (accept book import moment).answer ≡ Ok receipt → Extends later (accept book import moment).book
    → accept later import again ≡ record { answer = Ok receipt; book = later }

-- the rows of a legal book are good
abbrev pub LegalRowsAreGood : Type 0
LegalRowsAreGood = (book : Book) → IsLegal book → AreGood (rows_of book)

-- so are its rows after each of its batches
abbrev pub LegalStatesAreGood : Type 0
LegalStatesAreGood = (book : Book) (n : ℕ) → IsLegal book → AreGood (state_at book n)

-- and within the limits
abbrev pub LegalRowsAreWithin : Type 0
LegalRowsAreWithin = (book : Book) → IsLegal book → AreWithin (rows_of book)

-- each write of a batch of a legal book has a key that batches may write and puts only what the key takes; none deletes
-- a version
abbrev pub LegalWritesFit : Type 0
LegalWritesFit = (book : Book) (n : ℕ) (batch : Accepted) → IsLegal book → slice_get book.batches n ≡ Some batch
    → All FitsBatch batch.writes

-- no version of a legal book is above the number of its batches
abbrev pub VersionsStaySmall : Type 0
VersionsStaySmall = (book : Book) (of : Resource) → IsLegal book → version_of (rows_of book) of ≤ number_of book

-- a legal book stays legal as its base moves on
abbrev pub TrimKeepsLegal : Type 0
TrimKeepsLegal = (book : Book) (n : ℕ) → IsLegal book → n ≤ length book.batches → length book.receipts + n < 2 ^ 62
    → IsLegal (trimmed book n)

-- so do its rows, its number and what is kept of its batches
pub record IsSameBook (earlier later : Book) : Type 0 where
  pub rows : rows_of later ≡ rows_of earlier
  pub number : number_of later ≡ number_of earlier
  pub kept : all_kept later ≡ all_kept earlier

abbrev pub TrimChangesNothing : Type 0
TrimChangesNothing = (book : Book) (n : ℕ) → n ≤ length book.batches → IsSameBook book (trimmed book n)
