-- The texts of faults, as they are printed.
use Rattle.std.specs.Prelude.{ℕ, List, ◌++◌, codes, decimal}
use Rattle.json_tree.specs.declared.fault.TreeFault.{TreeFault}
use Rattle.json_tree.specs.declared.fault.TreeFault.TheVariants.{Syntax, NotWhole, Memory}
use Rattle.json_tree.specs.declared.pointer.fault.PointerFault.{PointerFault}
use Rattle.json_tree.specs.declared.pointer.fault.PointerFault.TheVariants as pointer

-- why bytes give no tree
abbrev pub text_of : TreeFault → List ℕ
text_of Syntax = codes "no JSON text"
text_of NotWhole = codes "a number that isn't a whole number from 0 to 2^64 - 1"
text_of Memory = codes "out of memory"

-- why a text gives no names
abbrev pub pointer_fault_text : PointerFault → List ℕ
pointer_fault_text (pointer.BadAt place) = codes "no JSON pointer, from place " ++ decimal place ++ codes " on"
pointer_fault_text pointer.Memory = codes "out of memory"
