-- What a body is read as, in either form.
use Rattle.std.specs.Prelude.{ℕ, List, Result}
use Rattle.alto_edits.specs.declared.edit.Edit.{Edit}
use Rattle.edit_forms.specs.declared.fault.FormFault.{FormFault}
use Rattle.edit_forms.specs.declared.form.Form.{Form}
use Rattle.edit_forms.specs.declared.form.Form.TheVariants as form
use Rattle.edit_forms.specs.Csv.{CsvReads}
use Rattle.edit_forms.specs.Json.{JsonReads}

-- what a body in a form reads as: its edits, or the first fault
abbrev pub FormReads : Form → List ℕ → Result (List Edit) FormFault → Type 0
FormReads form.Csv body read = CsvReads body read
FormReads form.Json body read = JsonReads body read
