-- `trim`: the base of a store's book moves on.
use Rattle.std.specs.Prelude.{◌≡◌, ◌⊎◌, ℕ, List, ◌++◌, Option, Result, Ok, Err, OnErr, codes, decimal}
use Rattle.alto_book.specs.Book.{Book}
use Rattle.alto_desk.specs.Records.{Backs}
use Rattle.alto_desk.specs.Trim.{trim, trim_number}
use Rattle.alto_desk.specs.declared.fault.TrimFault.{TrimFault}
use Rattle.alto_desk.specs.declared.fault.TrimFault.TheVariants as fault
use Rattle.alto_keeper.specs.Stored.{StoredData, Stays}
use Rattle.alto_commands.specs.Reports.{Report, Tells, line_end, says, silent}
use Rattle.alto_commands.specs.Stores.{Finds, IsUnopened}

-- what is told of a trim, by the number of the base then
abbrev pub trim_report : Result ℕ TrimFault → Report
trim_report (Ok number) = says 0 (codes "trimmed to " ++ (decimal number ++ line_end))
trim_report (Err fault.Keeper) = silent 3
trim_report (Err fault.Memory) = silent 1

-- what becomes of a book that is to keep so many batches, and which book there is then
abbrev pub Moves : ℕ → Book → Result ℕ TrimFault → Book → Type 0
Moves keep book (Ok number) later = (number ≡ trim_number book keep) × (later ≡ trim book number)
Moves keep book (Err why) later = later ≡ book

-- a book is found, what becomes of it is told, and what is held stands for the book then. Where it isn't trimmed, what
-- was held stays
pub record IsTrimmed (clean : Type 0) (keep result : ℕ) (held held' : StoredData → Type 0)
    (out out' : Option (List ℕ)) : Type 0 where
  pub book : Book
  pub answer : Result ℕ TrimFault
  pub later : Book
  pub found : Finds clean held book
  pub moves : Moves keep book answer later
  pub told : Tells (trim_report answer) result out out'
  pub kept : clean → (stored : StoredData) → held stored → Backs held' later
  pub refused : OnErr answer (clean → Stays held held')

-- what `trim` comes to, by what was held at the store and is
unfoldable pub Trims : Type 0 → ℕ → ℕ → (StoredData → Type 0) → (StoredData → Type 0)
    → Option (List ℕ) → Option (List ℕ) → Type 0
Trims clean keep result held held' out out' =
    IsTrimmed clean keep result held held' out out'
    ⊎ (IsUnopened clean held result out out' × (clean → Stays held held'))
