-- Records in memory by their paths, of which chosen opens fail.
use Rattle.std.specs.Prelude.{ℕ, Bool, List, String, string_bytes, ◌==◌, Option, Result, is_some, unwrap_or}
use Rattle.std.specs.BTreeMap.{is_at}
use Rattle.std.specs.Map.{lookup}
use Rattle.std.specs.Cmp.Lexicographic.{slice_cmp}
use Rattle.std.specs.Ordering.{nat_cmp}
use Rattle.std.specs.List.{list_any}
use Rattle.std.specs.declared.alloc.Global.{Global}
use Rattle.alto_keeper.specs.Stored.{StoredData, nothing, faults_after, one_more}
use Rattle.alto_keeper.specs.MemKeeper.{MemKeeperData}
use Rattle.alto_keeper.specs.declared.fault.KeepFault.{KeepFault}

-- what is held by path, the numbers of the opens and of each keeper's calls that fail, how many opens there were, and
-- faults
pub record MemVaultData : Type 0 where
  pub held : List (String Global × StoredData)
  pub failing : List ℕ
  pub failing_keepers : List ℕ
  pub calls : ℕ
  pub faults : ℕ

-- what stands under a path
abbrev pub entry_at : MemVaultData → List ℕ → Option StoredData
entry_at vault path = lookup (is_at (λ key. slice_cmp nat_cmp path (string_bytes key))) vault.held

-- what is held at a path
abbrev pub held_at : MemVaultData → List ℕ → StoredData
held_at vault path = unwrap_or (entry_at vault path) nothing

-- a path was opened
abbrev pub knows : MemVaultData → List ℕ → Bool
knows vault path = is_some (entry_at vault path)

-- the next open fails
abbrev pub fails : MemVaultData → Bool
fails vault = list_any (λ call. vault.calls == call) vault.failing

-- the vault after an open that left this
abbrev pub called : {T : Type 0} → Result T KeepFault → List (String Global × StoredData) → MemVaultData → MemVaultData
called result held vault =
    record vault { held = held; calls = one_more vault.calls; faults = faults_after result vault.faults }

-- the keeper that an open gives
abbrev pub opened : MemVaultData → List ℕ → MemKeeperData
opened vault path = record { stored = held_at vault path; failing = vault.failing_keepers; calls = 0; faults = 0 }
