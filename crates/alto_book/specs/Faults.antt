-- Why an import isn't accepted, from why its edits make no batch, and how it is printed.
use Rattle.std.specs.Prelude.{ℕ, List, ◌++◌, codes, decimal}
use Rattle.alto_edits.specs.declared.rule.CompileFault.{CompileFault}
use Rattle.alto_edits.specs.declared.rule.CompileFault.TheVariants as compiling
use Rattle.alto_edits.specs.Text.{name_of}
use Rattle.alto_book.specs.declared.fault.EditFault.{EditFault}
use Rattle.alto_book.specs.declared.fault.EditFault.TheVariants as fault

-- the same fault of the import
abbrev pub edit_fault : CompileFault → EditFault
edit_fault (compiling.Broken row rule) = fault.Broken row rule
edit_fault compiling.Memory = fault.Memory

-- the text of a fault
abbrev pub text_of : EditFault → List ℕ
text_of (fault.OtherBody n) = codes "batch " ++ (decimal n ++ codes " has this id and another body")
text_of (fault.Broken row rule) = codes "edit " ++ (decimal row ++ (codes " breaks rule " ++ name_of rule))
text_of fault.Keeper = codes "the records of the batches couldn't be kept"
text_of fault.Memory = codes "out of memory"
