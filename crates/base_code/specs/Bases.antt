-- A base: the rows that a book begins with, and what is kept of the batches that led to them.
use Rattle.std.specs.Prelude.{◌≡◌, ℕ, ◌<◌, ◌≤◌, ◌^◌, List, [], length, All, Some}
use Rattle.alto_names.specs.Name.{IsImportId}
use Rattle.alto_rows.specs.Rows.{Rows, AreSorted}
use Rattle.alto_rows.specs.declared.key.Key.{Key}
use Rattle.alto_rows.specs.declared.value.Value.{Value}
use Rattle.alto_rows.specs.declared.write.Write.{Write}
use Rattle.batch_code.specs.Storable.{IsStored}

-- what is kept for good of a batch, its receipt: the id and the digest of its import, and its moment
pub record KeptData : Type 0 where
  pub id : List ℕ
  pub digest : List ℕ
  pub moment : ℕ

-- the number of the batches before the base, their receipts, and the rows
pub record BaseData : Type 0 where
  pub b : ℕ
  pub receipts : List KeptData
  pub rows : Rows

-- the write that puts a row
abbrev pub write_of : Key × Value → Write
write_of row = record { key = row.0; value = Some row.1 }

-- a receipt can be stored
pub record IsKept (kept : KeptData) : Type 0 where
  pub id : IsImportId kept.id
  pub digest : length kept.digest ≡ 32
  pub moment : kept.moment < 2 ^ 64

-- rows can be stored: their keys rise, and so can the write that puts each
pub record AreStored (rows : Rows) : Type 0 where
  pub sorted : AreSorted rows
  pub each : All (λ row. IsStored (write_of row)) rows

-- a base can be stored
pub record IsBase (base : BaseData) : Type 0 where
  pub most : base.b < 2 ^ 64
  pub each : length base.receipts ≡ base.b
  pub receipts : All IsKept base.receipts
  pub few : length base.rows ≤ 400000
  pub rows : AreStored base.rows
  pub none : base.b ≡ 0 → base.rows ≡ []
