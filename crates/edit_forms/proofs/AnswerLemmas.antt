-- A column at the front of those that are read.
use Rattle.std.proofs.Common.{ℕ, Result, Ok, Err, refl}
use Rattle.alto_edits.specs.declared.edit.Edit.{Edit}
use Rattle.edit_forms.specs.declared.columns.ColumnFault.{ColumnFault}
use Rattle.edit_forms.specs.declared.columns.ColumnFault.TheVariants.{Bad, Memory}
use Rattle.edit_forms.specs.Answers.{IsAnswer, IsValue}
use Rattle.edit_forms.specs.Table.{Then, reads, fails}

module _ {A : Type 0} (column : ℕ) (Writes : A → Type 0) (Rest : A → Result Edit ℕ → Type 0) where
  -- a column with a value is followed by what is read with it
  pub then_value : (value : A) (result : Result Edit ColumnFault) → Writes value → IsAnswer (Rest value) result
      → IsAnswer (Then column Writes Rest) result
  then_value value (Ok made) writes rest = reads value writes rest
  then_value value (Err (Bad at)) writes rest = reads value writes rest
  then_value value (Err Memory) writes rest = tt

  -- a column without one is the fault
  pub then_fault : (fault : ColumnFault) → IsValue column Writes (Err fault)
      → IsAnswer (Then column Writes Rest) (Err fault)
  then_fault (Bad at) h = fails h.1 (rw h.0 refl)
  then_fault Memory h = tt
