-- Records in memory, of which chosen calls fail.
use Rattle.std.specs.Prelude.{ℕ, Bool, true, false, List, ◌==◌, Result, Ok, Err}
use Rattle.std.specs.List.{list_any}
use Rattle.alto_keeper.specs.Stored.{StoredData, faults_after, one_more}
use Rattle.alto_keeper.specs.declared.fault.KeepFault.{KeepFault}
use Rattle.alto_keeper.specs.declared.fault.KeepFault.TheVariants as fault

-- what is kept, the numbers of the calls that fail, and how many calls there were and failed
pub record MemKeeperData : Type 0 where
  pub stored : StoredData
  pub failing : List ℕ
  pub calls : ℕ
  pub faults : ℕ

-- the next call fails
abbrev pub fails : MemKeeperData → Bool
fails keeper = list_any (λ call. keeper.calls == call) keeper.failing

-- a call failed
abbrev pub has_failed : {T : Type 0} → Result T KeepFault → Bool
has_failed (Ok value) = false
has_failed (Err fault.Failed) = true
has_failed (Err fault.Memory) = false

-- the records after a call that left this
abbrev pub called : {T : Type 0} → Result T KeepFault → StoredData → MemKeeperData → MemKeeperData
called result stored keeper =
    record keeper { stored = stored; calls = one_more keeper.calls; faults = faults_after result keeper.faults }
