-- Which writes and batches can be stored.
use Rattle.std.specs.Prelude.{◌≡◌, ℕ, ◌<◌, ◌≤◌, ◌^◌, ◌++◌, List, length, All, Option, Some, None, ⊤}
use Rattle.alto_names.specs.Name.{IsImportId, IsEpoch}
use Rattle.alto_rows.specs.Accepted.{Accepted}
use Rattle.alto_rows.specs.Good.{IsKey, Takes}
use Rattle.alto_rows.specs.Order.{kind_of}
use Rattle.alto_rows.specs.declared.key.Key.{Key}
use Rattle.alto_rows.specs.declared.key.Key.TheVariants as key
use Rattle.alto_rows.specs.declared.value.Value.{Value}
use Rattle.alto_rows.specs.declared.value.Value.TheVariants as value
use Rattle.alto_rows.specs.declared.write.Write.{Write}
use Rattle.batch_code.specs.Spelling.{fields}

-- the kind of key is stored, and so is this change of it: a version is never deleted
abbrev pub TakesChange : Key → Option Value → Type 0
TakesChange (key.Seq of) None = ⊥
TakesChange at None = ⊤
TakesChange at (Some value) = Takes at value

-- a write can be stored: its key is neither the epoch nor the window, and is well formed, and its value is one that its
-- key takes
pub record IsStored (write : Write) : Type 0 where
  pub stored : 3 ≤ kind_of write.key
  pub is_key : IsKey write.key
  pub takes : TakesChange write.key write.value

-- a batch can be stored
pub record IsStorable (batch : Accepted) : Type 0 where
  pub id : IsImportId batch.id
  pub digest : length batch.digest ≡ 32
  pub moment : batch.moment < 2 ^ 64
  pub few : length batch.writes ≤ 16384
  pub writes : All IsStored batch.writes

-- an epoch and a window that a store may begin with
pub record IsHead (epoch : List ℕ) (window : ℕ) : Type 0 where
  pub is_epoch : IsEpoch epoch
  pub least : 2 ≤ window
  pub most : window ≤ 32

-- the bytes begin with the fields of this key, which is of a kind with this number
pub record IsKeyAt (number : ℕ) (bytes : List ℕ) (at : Key) (rest : List ℕ) : Type 0 where
  pub kind : kind_of at ≡ number
  pub is_key : IsKey at
  pub read : bytes ≡ fields at ++ rest

-- a value is as short as its number of bytes or names can say
abbrev pub IsShort : Option Value → Type 0
IsShort (Some (value.Text text)) = length text ≤ 65535
IsShort (Some (value.Names anes)) = length anes ≤ 64
IsShort _ = ⊤
