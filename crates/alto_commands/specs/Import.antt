-- `import`: a body is read, and its edits are accepted as one import.
use Rattle.std.specs.Prelude.{◌≡◌, ◌≢◌, ◌⊎◌, ℕ, List, ◌++◌, Option, OnErr, Result, Ok, Err, codes, decimal}
use Rattle.sha2.specs.Sha256.{sha256}
use Rattle.alto_edits.specs.Text.{name_of}
use Rattle.alto_book.specs.Acceptance.{accept}
use Rattle.alto_book.specs.Book.{Book}
use Rattle.alto_book.specs.Import.{Import}
use Rattle.alto_book.specs.declared.command.Receipt.{Receipt}
use Rattle.alto_book.specs.declared.fault.EditFault.{EditFault}
use Rattle.alto_book.specs.declared.fault.EditFault.TheVariants as edit_fault
use Rattle.alto_desk.specs.Records.{Backs}
use Rattle.alto_keeper.specs.Stored.{StoredData, Stays, one_more}
use Rattle.alto_serve.specs.Turns.{IsMoment}
use Rattle.edit_forms.specs.Forms.{FormReads}
use Rattle.edit_forms.specs.declared.fault.FormFault.{FormFault}
use Rattle.edit_forms.specs.declared.fault.FormFault.TheVariants as form_fault
use Rattle.edit_forms.specs.declared.form.Form.{Form}
use Rattle.alto_commands.specs.Bodies.{IsBody, IsNoBody, body_report}
use Rattle.alto_commands.specs.Reports.{Report, Tells, line_end, says, silent}
use Rattle.alto_commands.specs.Stores.{Finds, IsUnopened}
use Rattle.alto_commands.specs.declared.fault.BodyFault.TheVariants as body_fault
use Rattle.alto_commands.specs.declared.fault.ImportFault.{ImportFault}
use Rattle.alto_commands.specs.declared.fault.ImportFault.TheVariants as import_fault

-- ---- what is told

-- a body doesn't read: at this row and column, 0 for a number that the fault doesn't have
abbrev pub bad_form : ℕ → ℕ → Report
bad_form row column =
    says 11 (codes "bad form row " ++ (decimal row ++ (codes " column " ++ (decimal column ++ line_end))))

-- why a body doesn't read
abbrev pub form_report : FormFault → Report
form_report form_fault.Syntax = bad_form 0 0
form_report form_fault.Empty = bad_form 0 0
form_report (form_fault.BadRecord row) = bad_form row 0
form_report (form_fault.BadColumn row column) = bad_form row column
form_report form_fault.Memory = silent 1

-- why an import isn't accepted
abbrev pub edit_report : EditFault → Report
edit_report (edit_fault.OtherBody n) = says 12 (codes "other body n " ++ (decimal n ++ line_end))
edit_report (edit_fault.Broken row rule) =
    says 7 (codes "refused row " ++ (decimal row ++ (codes " rule " ++ (name_of rule ++ line_end))))
edit_report edit_fault.Keeper = silent 3
edit_report edit_fault.Memory = silent 1

-- what becomes of an import
abbrev pub import_report : Result Receipt ImportFault → Report
import_report (Ok receipt) =
    says 0 (codes "accepted n " ++ (decimal receipt.n ++ (codes " moment " ++ (decimal receipt.moment ++ line_end))))
import_report (Err (import_fault.Body why)) = body_report why
import_report (Err (import_fault.Form why)) = form_report why
import_report (Err (import_fault.Edit why)) = edit_report why

-- ---- what becomes of an import

-- an import is accepted or refused at a book, or its batch can't be kept
abbrev pub Decides : Result Receipt EditFault → Book → Import → ℕ → Book → Type 0
Decides (Err edit_fault.Keeper) book import moment later = later ≡ book
Decides (Err edit_fault.Memory) book import moment later = later ≡ book
Decides answer book import moment later = accept book import moment ≡ record { answer = answer; book = later }

-- a body is read that makes an import under an id
pub record IsMade (id : List ℕ) (form : Form) (import : Import) (left left' : Option (List ℕ)) : Type 0 where
  pub body : List ℕ
  pub read : IsBody body left left'
  pub means : FormReads form body (Ok import.edits)
  pub named : import ≡ record { id = id; digest = sha256 body; edits = import.edits }

-- a body is read that has a fault
pub record IsMalformed (form : Form) (why : FormFault) (left left' : Option (List ℕ)) : Type 0 where
  pub body : List ℕ
  pub read : IsBody body left left'
  pub means : why ≢ form_fault.Memory → FormReads form body (Err why)

-- why no import is made: no body is read, or it has a fault
abbrev pub IsUnmade : Form → ImportFault → Option (List ℕ) → Option (List ℕ) → Type 0
IsUnmade form (import_fault.Body why) left left' = IsNoBody why left left'
IsUnmade form (import_fault.Form why) left left' = IsMalformed form why left left'
IsUnmade form (import_fault.Edit why) left left' = ⊥

-- an import is made, and decided at a timestamp of the clock
pub record IsDecided (id : List ℕ) (form : Form) (time : Option ℕ) (book : Book) (answer : Result Receipt EditFault)
    (later : Book) (left left' : Option (List ℕ)) : Type 0 where
  pub import : Import
  pub moment : ℕ
  pub made : IsMade id form import left left'
  pub timely : IsMoment time moment
  pub decided : Decides answer book import moment later

-- what becomes of an import under an id, whose body in a form is what a console has left, and which book there is then
unfoldable pub Takes : List ℕ → Form → Option ℕ → Book → Result Receipt ImportFault → Book
    → Option (List ℕ) → Option (List ℕ) → Type 0
Takes id form time book (Ok receipt) later left left' = IsDecided id form time book (Ok receipt) later left left'
Takes id form time book (Err (import_fault.Edit why)) later left left' =
    IsDecided id form time book (Err why) later left left'
Takes id form time book (Err (import_fault.Body why)) later left left' = IsNoBody why left left' × (later ≡ book)
Takes id form time book (Err (import_fault.Form why)) later left left' =
    IsMalformed form why left left' × (later ≡ book)

-- the counts of failed reads of a console, and of faults of a keeper, after that
abbrev pub reads_after : {T : Type 0} → Result T ImportFault → ℕ → ℕ
reads_after (Err (import_fault.Body body_fault.ReadFault)) n = one_more n
reads_after _ n = n

abbrev pub faults_after : {T : Type 0} → Result T ImportFault → ℕ → ℕ
faults_after (Err (import_fault.Edit edit_fault.Keeper)) n = one_more n
faults_after _ n = n

-- ---- the command

-- a book is found, what becomes of the import there is told, and what is held stands for the book then. Where the
-- import isn't accepted, what was held stays
pub record IsImported (clean : Type 0) (id : List ℕ) (form : Form) (time : Option ℕ) (result : ℕ)
    (held held' : StoredData → Type 0)
    (left out left' out' : Option (List ℕ)) : Type 0 where
  pub book : Book
  pub answer : Result Receipt ImportFault
  pub later : Book
  pub found : Finds clean held book
  pub taken : Takes id form time book answer later left left'
  pub told : Tells (import_report answer) result out out'
  pub kept : clean → (stored : StoredData) → held stored → Backs held' later
  pub refused : OnErr answer (clean → Stays held held')

-- what `import` comes to, by what was held at the store and is, and by the bytes that a console had left and out and
-- has
unfoldable pub Imports : Type 0 → List ℕ → Form → Option ℕ → ℕ → (StoredData → Type 0) → (StoredData → Type 0)
    → Option (List ℕ) → Option (List ℕ) → Option (List ℕ) → Option (List ℕ) → Type 0
Imports clean id form time result held held' left out left' out' =
    IsImported clean id form time result held held' left out left' out'
    ⊎ (IsUnopened clean held result out out' × (clean → Stays held held') × (left' ≡ left))
