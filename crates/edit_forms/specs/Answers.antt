-- How what the columns' functions answer stands for what is defined of them.
use Rattle.std.specs.Prelude.{◌≡◌, ℕ, List, Result, Ok, Err, ⊤}
use Rattle.alto_edits.specs.declared.edit.Edit.{Edit}
use Rattle.edit_forms.specs.declared.columns.ColumnFault.{ColumnFault}
use Rattle.edit_forms.specs.declared.columns.ColumnFault.TheVariants.{Bad, Memory}
use Rattle.edit_forms.specs.declared.columns.Columns.{Columns}
use Rattle.edit_forms.specs.declared.operation.Operation.{Operation}
use Rattle.edit_forms.specs.Table.{Reads}

-- the column writes the value, or it writes none, or out of memory
abbrev pub IsValue : {A : Type 0} → ℕ → (A → Type 0) → Result A ColumnFault → Type 0
IsValue {A} column Writes (Ok value) = Writes value
IsValue {A} column Writes (Err (Bad at)) = (at ≡ column) × ((value : A) → ¬ (Writes value))
IsValue {A} column Writes (Err Memory) = ⊤

-- the columns read as this edit or this fault, or out of memory
abbrev pub IsAnswer : {A : Type 0} → (Result A ℕ → Type 0) → Result A ColumnFault → Type 0
IsAnswer Read (Ok made) = Read (Ok made)
IsAnswer Read (Err (Bad column)) = Read (Err column)
IsAnswer Read (Err Memory) = ⊤

-- the same of the columns of an operation on a network
abbrev pub IsEditOf : Operation → List ℕ → Columns → Result Edit ColumnFault → Type 0
IsEditOf operation net columns result =
    IsAnswer (Reads operation net columns.a.now columns.b.now columns.c.now columns.d.now) result
