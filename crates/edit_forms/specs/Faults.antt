-- What is written of a fault of an import.
use Rattle.std.specs.Prelude.{ℕ, List, ◌++◌, decimal, codes}
use Rattle.edit_forms.specs.declared.fault.FormFault.{FormFault}
use Rattle.edit_forms.specs.declared.fault.FormFault.TheVariants.{Syntax, Empty, BadRecord, BadColumn, Memory}

-- what is written of a fault
abbrev pub fault_text : FormFault → List ℕ
fault_text Syntax = codes "no JSON object with a list of edits"
fault_text Empty = codes "no edit"
fault_text (BadRecord row) = codes "row " ++ (decimal row ++ codes " hasn't the columns of an edit")
fault_text (BadColumn row column) = codes "row " ++ (decimal row ++ (codes " has a fault in column " ++ decimal column))
fault_text Memory = codes "out of memory"
