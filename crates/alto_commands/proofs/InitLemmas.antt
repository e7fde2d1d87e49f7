-- What `init` comes to.
use Rattle.std.proofs.Common.{◌≡◌, ℕ, List, Option, inl, inr}
use Rattle.alto_desk.specs.Records.{first_records}
use Rattle.alto_desk.specs.declared.fault.InitFault.{InitFault}
use Rattle.alto_keeper.specs.Stored.{StoredData, Stays, nothing}
use Rattle.alto_commands.specs.Init.{Begins, IsTaken, begun_report, init_report}
use Rattle.alto_commands.specs.Reports.{Tells}

-- a store is begun
pub begins_new : (clean : Type 0) (epoch : List ℕ) (window result : ℕ) (held held' : StoredData → Type 0)
    (out out' : Option (List ℕ))
    → (clean → (stored : StoredData) → held stored → (stored ≡ nothing) × held' (first_records epoch window))
    → Tells (begun_report epoch window) result out out' → Begins clean epoch window result held held' out out'
unfolding Begins
begins_new clean epoch window result held held' out out' begun told = inl (record { begun = begun; told = told })

-- none is
pub begins_none : (clean : Type 0) (epoch : List ℕ) (window result : ℕ) (held held' : StoredData → Type 0)
    (out out' : Option (List ℕ))
    (why : InitFault) → (clean → (stored : StoredData) → held stored → IsTaken why stored)
    → Tells (init_report why) result out out'
    → (clean → Stays held held') → Begins clean epoch window result held held' out out'
unfolding Begins
begins_none clean epoch window result held held' out out' why explained told stays =
    inr (record { why = why; explained = explained; told = told; stays = stays })
