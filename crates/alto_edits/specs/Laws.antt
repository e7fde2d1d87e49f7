-- What holds of the batches that edits make: the statements of the laws.
use Rattle.std.specs.Prelude.{◌≡◌, ℕ, ◌+◌, ◌^◌, ◌<◌, ◌≤◌, List, length, All, IfSome, None, Ok}
use Rattle.alto_rows.specs.declared.key.Key.{Key}
use Rattle.alto_rows.specs.declared.key.Key.TheVariants as key
use Rattle.alto_rows.specs.declared.resource.Resource.{Resource}
use Rattle.alto_rows.specs.declared.write.Write.{Write}
use Rattle.alto_rows.specs.Good.{IsResource, IsKey, Takes, AreGood}
use Rattle.alto_rows.specs.Rows.{Rows, after}
use Rattle.alto_rows.specs.Versions.{version_of}
use Rattle.alto_edits.specs.declared.edit.Edit.{Edit}
use Rattle.alto_edits.specs.declared.rule.Past.{Past}
use Rattle.alto_edits.specs.Compiled.{edits_writes, compiled}
use Rattle.alto_edits.specs.Edits.{IsEdit}
use Rattle.alto_edits.specs.Limits.{AreWithin}

-- a key that an edit may write: not the epoch, the window or a version, and its names are of their alphabets
abbrev pub IsOfEdit : Key → Type 0
IsOfEdit key.Epoch = ⊥
IsOfEdit key.Window = ⊥
IsOfEdit (key.Seq of) = ⊥
IsOfEdit at = IsKey at

-- a key that a batch may write: that of a version, or one that an edit may write
abbrev pub IsOfBatch : Key → Type 0
IsOfBatch (key.Seq of) = IsResource of
IsOfBatch at = IsOfEdit at

-- a write that an edit may make: to one of its keys, and of a value that the key takes
abbrev pub FitsEdit : Write → Type 0
FitsEdit write = IsOfEdit write.key × IfSome write.value (Takes write.key)

-- a write that a batch may have: to one of its keys, of a value that the key takes, and no deletion of a version
abbrev pub FitsBatch : Write → Type 0
FitsBatch write = IsOfBatch write.key × IfSome write.value (Takes write.key) × (write.value ≡ None → IsOfEdit write.key)

-- each version has a next one that a row can hold
abbrev pub HaveNextVersions : Rows → Type 0
HaveNextVersions rows = (of : Resource) → version_of rows of + 1 < 2 ^ 63

-- edits in their ranges make these writes of good rows, with their version rows
pub record MakeBatch (rows : Rows) (edits : List Edit) (past : Past) (writes : List Write) : Type 0 where
  pub good : AreGood rows
  pub room : HaveNextVersions rows
  pub are_edits : All IsEdit edits
  pub made : compiled rows edits past ≡ Ok writes

-- good rows are good after a batch
abbrev pub CompiledRowsAreGood : Type 0
CompiledRowsAreGood = (rows : Rows) (edits : List Edit) (past : Past) (writes : List Write)
    → MakeBatch rows edits past writes → AreGood (after rows writes)

-- each write of a batch fits
abbrev pub CompiledWritesFit : Type 0
CompiledWritesFit = (rows : Rows) (edits : List Edit) (past : Past) (writes : List Write)
    → MakeBatch rows edits past writes → All FitsBatch writes

-- each write that edits make of good rows fits, before the version rows are added
abbrev pub EditsWritesFit : Type 0
EditsWritesFit = (rows : Rows) (row : ℕ) (edits : List Edit) (writes : List Write)
    → AreGood rows → All IsEdit edits → edits_writes rows row edits ≡ Ok writes → All FitsEdit writes

-- rows within the limits are so after a batch, which has 16,384 writes at most
abbrev pub CompiledRowsAreWithin : Type 0
CompiledRowsAreWithin = (rows : Rows) (edits : List Edit) (past : Past) (writes : List Write)
    → MakeBatch rows edits past writes → AreWithin rows → AreWithin (after rows writes) × (length writes ≤ 16384)
