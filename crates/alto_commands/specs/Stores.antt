-- What is found at a store: a book, or why there is none.
use Rattle.std.specs.Prelude.{ℕ, List, ◌++◌, Option, codes, decimal}
use Rattle.alto_book.specs.Book.{Book}
use Rattle.alto_desk.specs.Opening.{Explains}
use Rattle.alto_desk.specs.Records.{StoredAs}
use Rattle.alto_desk.specs.declared.fault.OpenFault.{OpenFault}
use Rattle.alto_desk.specs.declared.fault.OpenFault.TheVariants as fault
use Rattle.alto_keeper.specs.Stored.{StoredData}
use Rattle.batch_check.specs.Text.{name_of}
use Rattle.alto_commands.specs.Reports.{Report, Tells, line_end, says, silent}

-- the book that was held is found, where what is held is known
unfoldable pub Finds : Type 0 → (StoredData → Type 0) → Book → Type 0
Finds clean held book = clean → (stored : StoredData) → held stored → StoredAs stored book

-- what is told where no book is opened
abbrev pub open_report : OpenFault → Report
open_report (fault.Damaged n) = says 9 (codes "damaged row " ++ (decimal n ++ line_end))
open_report (fault.DamagedBase k) = says 9 (codes "damaged base " ++ (decimal k ++ line_end))
open_report (fault.BadBook n rule) =
    says 9 (codes "bad book row " ++ (decimal n ++ (codes " rule " ++ (name_of rule ++ line_end))))
open_report fault.Keeper = silent 3
open_report fault.Memory = silent 1

-- no book is opened of what was held, and why is told
pub record IsUnopened (clean : Type 0) (held : StoredData → Type 0) (result : ℕ)
    (out out' : Option (List ℕ)) : Type 0 where
  pub why : OpenFault
  pub explained : clean → (stored : StoredData) → held stored → Explains why stored
  pub told : Tells (open_report why) result out out'
