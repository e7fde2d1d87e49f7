-- `init`: a store is begun.
use Rattle.std.specs.Prelude.{◌≡◌, ◌≢◌, ◌⊎◌, ℕ, List, ◌++◌, Option, codes, decimal}
use Rattle.alto_desk.specs.Records.{first_records}
use Rattle.alto_desk.specs.declared.fault.InitFault.{InitFault}
use Rattle.alto_desk.specs.declared.fault.InitFault.TheVariants as fault
use Rattle.alto_keeper.specs.Stored.{StoredData, Stays, nothing}
use Rattle.alto_commands.specs.Reports.{Report, Tells, line_end, says, silent}

-- what is printed of a store that is begun
abbrev pub initialised : List ℕ → ℕ → List ℕ
initialised epoch window = codes "initialised " ++ (epoch ++ (codes " window " ++ (decimal window ++ line_end)))

-- what is told of it
abbrev pub begun_report : List ℕ → ℕ → Report
begun_report epoch window = says 0 (initialised epoch window)

-- what is told of one that isn't
abbrev pub init_report : InitFault → Report
init_report fault.Already = says 10 (codes "already initialised" ++ line_end)
init_report fault.Keeper = silent 3
init_report fault.Memory = silent 1

-- something is held, where that is why
abbrev pub IsTaken : InitFault → StoredData → Type 0
IsTaken why stored = why ≡ fault.Already → stored ≢ nothing

-- nothing was held, and the row of the epoch and the window is
pub record IsInitialised (clean : Type 0) (epoch : List ℕ) (window : ℕ) (result : ℕ) (held held' : StoredData → Type 0)
    (out out' : Option (List ℕ)) : Type 0 where
  pub begun : clean → (stored : StoredData) → held stored → (stored ≡ nothing) × held' (first_records epoch window)
  pub told : Tells (begun_report epoch window) result out out'

-- no store is begun, and why is told. What was held stays
pub record IsNotInitialised (clean : Type 0) (result : ℕ) (held held' : StoredData → Type 0)
    (out out' : Option (List ℕ)) : Type 0 where
  pub why : InitFault
  pub explained : clean → (stored : StoredData) → held stored → IsTaken why stored
  pub told : Tells (init_report why) result out out'
  pub stays : clean → Stays held held'

-- what `init` comes to, by what was held at the store and is
unfoldable pub Begins : Type 0 → List ℕ → ℕ → ℕ → (StoredData → Type 0) → (StoredData → Type 0)
    → Option (List ℕ) → Option (List ℕ) → Type 0
Begins clean epoch window result held held' out out' =
    IsInitialised clean epoch window result held held' out out' ⊎ IsNotInitialised clean result held held' out out'
