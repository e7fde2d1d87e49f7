-- The edits of records, which are numbered from 1, or the first fault in the order of rows and columns.
use Rattle.std.specs.Prelude.{◌≡◌, ℕ, suc, List, [], ◌∷◌, Result, Ok, Err}
use Rattle.alto_edits.specs.declared.edit.Edit.{Edit}
use Rattle.edit_forms.specs.declared.fault.FormFault.{FormFault}
use Rattle.edit_forms.specs.declared.fault.FormFault.TheVariants.{BadColumn, BadRecord, Empty}
use Rattle.edit_forms.specs.Table.{ColumnsRead}

-- an edit, or the fault of a column of this row
abbrev pub in_row : ℕ → Result Edit ℕ → Result Edit FormFault
in_row row (Ok made) = Ok made
in_row row (Err column) = Err (BadColumn row column)

-- what a record reads as: what its six fields read as, if it has six
abbrev pub RecordReads : ℕ → List (List ℕ) → Result Edit FormFault → Type 0
RecordReads row (op ∷ net ∷ a ∷ b ∷ c ∷ d ∷ []) read =
    (columns : Result Edit ℕ) × ColumnsRead op net a b c d columns × (read ≡ in_row row columns)
RecordReads row _ read = read ≡ Err (BadRecord row)

-- an edit before those that follow, unless one of them has a fault
abbrev pub before : Edit → Result (List Edit) FormFault → Result (List Edit) FormFault
before made (Ok more) = Ok (made ∷ more)
before made (Err fault) = Err fault

-- a record with an edit, and what is read behind it; or a record with a fault
pub data First (Record : Result Edit FormFault → Type 0) (Rest : Result (List Edit) FormFault → Type 0)
    (read : Result (List Edit) FormFault) : Type 0 where
  reads : (made : Edit) (more : Result (List Edit) FormFault) → Record (Ok made) → Rest more
      → read ≡ before made more → First Record Rest read
  fails : (fault : FormFault) → Record (Err fault) → read ≡ Err fault → First Record Rest read

-- what records read as, the first of which has this number: the edits of all, or the first fault
abbrev pub RecordsRead : ℕ → List (List (List ℕ)) → Result (List Edit) FormFault → Type 0
RecordsRead row [] read = read ≡ Ok []
RecordsRead row (fields ∷ more) read = First (RecordReads row fields) (RecordsRead (suc row) more) read

-- what a body's records read as, of which there is one at least
abbrev pub BodyReads : List (List (List ℕ)) → Result (List Edit) FormFault → Type 0
BodyReads [] read = read ≡ Err Empty
BodyReads (first ∷ more) read = RecordsRead 1 (first ∷ more) read
