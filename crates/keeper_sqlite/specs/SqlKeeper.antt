-- Records in a database: what a keeper of them is, and what it holds.
use Rattle.std.specs.Prelude.{◌≡◌, ◌⊎◌, ℕ, ℤ, Bool, false, List, [], Result, Ok, Err, IsTrue, IfOk, OnOk, refl}
use Rattle.std.specs.Coded.{Coded, code_by, coded×, coded_ℕ, coded_bool}
use Rattle.std.proofs.Math.Logic.{∥∥₁_map}
use Rattle.sqlite_trees.specs.View.{doubt}
use Rattle.sqlite.specs.Held.{Held, held_code, state}
use Rattle.sqlite.specs.State.{State, HasCleanDisk, KeepsCommit}
use Rattle.sqlite.specs.Store.{Ghosts}
use Rattle.sqlite.specs.Tree.{Trees}
use Rattle.sqlite.specs.declared.error.Error.{Error}
use Rattle.sqlite.specs.declared.error.Error.TheVariants.{SqliteFailure}
use Rattle.sqlite.specs.declared.error.ErrorCode.TheVariants.{OutOfMemory}
use Rattle.alto_keeper.specs.declared.fault.KeepFault.{KeepFault}
use Rattle.alto_keeper.specs.declared.fault.KeepFault.TheVariants as fault
use Rattle.alto_keeper.specs.Stored.{StoredData, IsNext, with_row, rebased, nothing, Stays}
use Rattle.keeper_sqlite.specs.Store.{HasRows, no_schema, table_rows, with_base}
use Rattle.keeper_sqlite.specs.Reading.{records_in}

-- its connection, whether it has made the table, and how many calls were refused
pub record SqlKeeperData (S : Type 0) : Type 0 where
  pub conn : Held S
  pub is_made : Bool
  pub faults : ℕ

abbrev pub keeper_code : {S : Type 0} → Coded S → Coded (SqlKeeperData S)
keeper_code {S} store =
    code_by (Held S × (Bool × ℕ)) (coded× (held_code store) (coded× coded_bool coded_ℕ))
    (λ keeper. (keeper.conn, (keeper.is_made, keeper.faults)))
    (λ parts. record { conn = parts.0; is_made = parts.1.0; faults = parts.1.1 }) (λ _. refl)

-- nothing has put a database in doubt, and no fault has shut it
abbrev pub IsClean : State → Type 0
IsClean database = HasCleanDisk database × IsTrue database.is_open

-- no transaction is under way, and all is committed
abbrev pub IsIdle : State → Type 0
IsIdle database = (database.in_transaction ≡ false) × (database.now ≡ database.committed)

-- a database holds records in the table
abbrev pub HoldsRows : State → StoredData → Type 0
HoldsRows database stored = IsIdle database × HasRows database.now stored

-- a database holds records: in the table, or there is no table yet and nothing is held
abbrev pub HoldsIn : Bool → State → StoredData → Type 0
HoldsIn is_made database stored =
    IsIdle database
    × (HasRows database.now stored ⊎ ((is_made ≡ false) × (database.now.schema ≡ no_schema) × (stored ≡ nothing)))

-- how a refusal of the database is told
abbrev pub fault_of : Error → KeepFault
fault_of (SqliteFailure OutOfMemory) = fault.Memory
fault_of _ = fault.Failed

-- how the outcome of statements is told
abbrev pub told : {T : Type 0} → Result T Error → Result T KeepFault
told (Ok value) = Ok value
told (Err error) = Err (fault_of error)

module _ {S : Type 0} (g : Ghosts S) where
  abbrev pub IsSure : SqlKeeperData S → Type 0
  IsSure keeper = IsClean (state g keeper.conn)

  -- the disk has returned what was written so far
  abbrev pub IsFaithful : SqlKeeperData S → Type 0
  IsFaithful keeper = HasCleanDisk (state g keeper.conn)

  -- the database of a keeper holds records
  abbrev pub Holds : SqlKeeperData S → StoredData → Type 0
  Holds keeper = HoldsIn keeper.is_made (state g keeper.conn)

  -- an open after a crash may find trees in which these records are read
  abbrev pub MayLeave : SqlKeeperData S → StoredData → Type 0
  MayLeave keeper stored = (found : Trees) × (state g keeper.conn).may_leave found × (records_in found ≡ stored)

-- an open after a crash finds some records
pub leaves_some : {S : Type 0} (is_clean : S → Bool) (recovers : S → Trees → Type 0)
    → ((store : S) → doubt (is_clean store) ≡ 0 → ∥ ((found : Trees) × recovers store found) ∥₁)
    → (store : S) → doubt (is_clean store) ≡ 0
    → ∥ ((stored : StoredData) × ((found : Trees) × recovers store found × (records_in found ≡ stored))) ∥₁
leaves_some is_clean recovers law store clean = ∥∥₁_map (law store clean) (λ it. (records_in it.0, (it.0, it.1, refl)))

-- over a clean disk, a crash then finds what it could find before, or what this tells
abbrev pub CrashFinds : State → State → (Trees → Type 0) → Type 0
CrashFinds old new Tells =
    HasCleanDisk new → (found : Trees) → new.may_leave found → old.may_leave found ⊎ Tells found

-- nothing puts a database in doubt, and a crash finds the rows of these records
abbrev pub IsSettled : State → StoredData → Type 0
IsSettled database stored =
    IsClean database × ((found : Trees) → database.may_leave found → found 0 ≡ table_rows stored)

-- over a clean disk, a transaction goes on, nothing is committed, and these pieces stand where no base was
abbrev pub HasAdded : {S : Type 0} → Ghosts S → Held S → Held S → List (List ℕ) → Type 0
HasAdded g old new pieces =
    HasCleanDisk (state g new) → IsTrue old.in_transaction
    → IsTrue new.in_transaction × KeepsCommit (state g old) (state g new)
    × ((stored : StoredData) → HasRows (state g old).now (with_base [] stored)
    → HasRows (state g new).now (with_base pieces stored))

module _ {S : Type 0} (g : Ghosts S) (old new : SqlKeeperData S) where
  -- what put the database in doubt lasts
  abbrev pub StaysSure : Type 0
  StaysSure = IsSure g new → IsSure g old

  -- over a clean disk, an Ok leaves the table, with the records that were held
  abbrev pub Makes : {T E : Type 0} → Result T E → Type 0
  Makes result =
      OnOk result (HasCleanDisk (state g new.conn) → (stored : StoredData) → Holds g old stored
      → HoldsRows (state g new.conn) stored)

  -- what is read is all that was held
  abbrev pub Reads : {E : Type 0} → Result StoredData E → Type 0
  Reads result = IfOk result (λ all. IsSure g new → (stored : StoredData) → Holds g old stored → all ≡ stored)

  -- what was held stays
  abbrev pub Keeps : Type 0
  Keeps = IsSure g new → Stays (Holds g old) (Holds g new)

  -- an Ok adds the row behind the others
  abbrev pub Adds : {T E : Type 0} → ℤ → List ℕ → Result T E → Type 0
  Adds n bytes result =
      OnOk result (IsSure g new → (stored : StoredData) → Holds g old stored → IsNext stored n
      → Holds g new (with_row n bytes stored))

  -- an Ok puts the base in place of the one before, and takes away the rows that it takes in
  abbrev pub Moves : {T E : Type 0} → List (List ℕ) → ℤ → Result T E → Type 0
  Moves pieces upto result =
      OnOk result (IsSure g new → (stored : StoredData) → Holds g old stored → Holds g new (rebased pieces upto stored))

  -- what broke the disk lasts
  abbrev pub StaysFaithful : Type 0
  StaysFaithful = IsFaithful g new → IsFaithful g old

  -- a crash then finds what it could find before; or nothing was in doubt, and it finds the records that were held
  abbrev pub CrashKeeps : Type 0
  CrashKeeps =
      CrashFinds (state g old.conn) (state g new.conn)
      (λ found. IsSure g old × ((stored : StoredData) → Holds g old stored → found 0 ≡ table_rows stored))

  -- the same, and with the records it may find the row
  abbrev pub CrashAdds : ℤ → List ℕ → Type 0
  CrashAdds n bytes =
      CrashFinds (state g old.conn) (state g new.conn)
      (λ found. IsSure g old × ((stored : StoredData) → Holds g old stored → IsNext stored n
      → (found 0 ≡ table_rows stored) ⊎ (found 0 ≡ table_rows (with_row n bytes stored))))

  -- the same, and with the records it may find the base
  abbrev pub CrashMoves : List (List ℕ) → ℤ → Type 0
  CrashMoves pieces upto =
      CrashFinds (state g old.conn) (state g new.conn)
      (λ found. IsSure g old × ((stored : StoredData) → Holds g old stored
      → (found 0 ≡ table_rows stored) ⊎ (found 0 ≡ table_rows (rebased pieces upto stored))))

  -- over a clean disk, an Ok tells that nothing was in doubt, and that records which fit became these for good
  abbrev pub Settles : {T E : Type 0} → (StoredData → Type 0) → (StoredData → StoredData) → Result T E → Type 0
  Settles Fits after result =
      OnOk result (IsFaithful g new → IsSure g old × ((stored : StoredData) → Holds g old stored → Fits stored
      → IsSettled (state g new.conn) (after stored)))
