-- What records hold, and what a call on them does to it.
use Rattle.std.specs.Prelude.{◌≡◌, ◌⊎◌, ℕ, ◌+◌, ◌-◌, ◌^◌, ℤ, pos, ◌<ℤ◌, ◌≤ℤ◌, int_le, min, Bool, ◌==◌, ◌&&◌, not}
use Rattle.std.specs.Prelude.{if◌then◌else◌, List, [], ◌∷◌, ◌++◌, Result, Ok, Err, All, filter}
use Rattle.alto_keeper.specs.declared.fault.KeepFault.{KeepFault}
use Rattle.alto_keeper.specs.declared.fault.KeepFault.TheVariants as fault

-- a row: its number and its bytes
pub record RowData : Type 0 where
  pub n : ℤ
  pub bytes : List ℕ

-- the pieces of a base, and the rows behind it
pub record StoredData : Type 0 where
  pub base : List RowData
  pub rows : List RowData

-- nothing is kept
abbrev pub nothing : StoredData
nothing = record { base = []; rows = [] }

-- a number that the next row may have: from 0 on, and above that of each row
abbrev pub IsNext : StoredData → ℤ → Type 0
IsNext stored n = (pos 0 ≤ℤ n) × All (λ row. row.n <ℤ n) stored.rows

-- one row more
abbrev pub with_row : ℤ → List ℕ → StoredData → StoredData
with_row n bytes stored = record stored { rows = stored.rows ++ record { n = n; bytes = bytes } ∷ [] }

-- pieces as they are kept, the first under this number
abbrev pub numbered : ℕ → List (List ℕ) → List RowData
numbered k [] = []
numbered k (bytes ∷ pieces) = record { n = pos k; bytes = bytes } ∷ numbered (k + 1) pieces

-- a row goes with a base that takes in the rows up to this number: it is one of them, and not the first row, which
-- stays for good
abbrev pub is_taken_in : ℤ → RowData → Bool
is_taken_in upto row = int_le (pos 1) row.n && int_le row.n upto

-- another base, of these pieces, which takes in the rows up to this number
abbrev pub rebased : List (List ℕ) → ℤ → StoredData → StoredData
rebased pieces upto stored =
    record { base = numbered 0 pieces; rows = filter (λ row. not (is_taken_in upto row)) stored.rows }

-- what was held is held afterwards, as it was
abbrev pub Stays : (StoredData → Type 0) → (StoredData → Type 0) → Type 0
Stays before after = (kept : StoredData) → before kept → after kept

-- these are the records that were kept
abbrev pub IsKept : StoredData → StoredData → Type 0
IsKept kept found = found ≡ kept

-- these are the records that were kept, or these with the next row
abbrev pub IsKeptOrAdded : ℤ → List ℕ → StoredData → StoredData → Type 0
IsKeptOrAdded n bytes kept found = IsNext kept n → (found ≡ kept) ⊎ (found ≡ with_row n bytes kept)

-- these are the records that were kept, or these with another base
abbrev pub IsKeptOrRebased : List (List ℕ) → ℤ → StoredData → StoredData → Type 0
IsKeptOrRebased pieces upto kept found = (found ≡ kept) ⊎ (found ≡ rebased pieces upto kept)

-- what a crash may leave after a call it could leave before it, or nothing was in doubt, and what was held became this
abbrev pub LeavesFrom : (before held : StoredData → Type 0) (was_clean : Type 0)
    (becomes : StoredData → StoredData → Type 0) (after : StoredData → Type 0)
    → Type 0
LeavesFrom before held was_clean becomes after =
    (found : StoredData) → after found
    → before found ⊎ (was_clean × ((kept : StoredData) → held kept → becomes kept found))

-- a crash may leave no other records than these
abbrev pub LeavesOnly : (StoredData → Type 0) → StoredData → Type 0
LeavesOnly may_leave stored = (found : StoredData) → may_leave found → found ≡ stored

-- a count that has risen by one: it stops at the last number of 64 bits
abbrev pub one_more : ℕ → ℕ
one_more n = min (n + 1) (2 ^ 64 - 1)

-- a count of faults after a call: one more exactly where the records refused
abbrev pub faults_after : {T : Type 0} → Result T KeepFault → ℕ → ℕ
faults_after (Ok value) n = n
faults_after (Err fault.Failed) n = one_more n
faults_after (Err fault.Memory) n = n

-- a vault's count of faults after a keeper is closed: one more exactly where the keeper has counted any
abbrev pub faults_closed : ℕ → ℕ → ℕ
faults_closed counted n = if counted == 0 then n else one_more n
