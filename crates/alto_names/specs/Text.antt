-- The text of a fault, as it is printed.
use Rattle.std.specs.Prelude.{ℕ, List, ◌++◌, codes, decimal}
use Rattle.alto_names.specs.declared.label.NameFault.{NameFault}
use Rattle.alto_names.specs.declared.label.NameFault.TheVariants as fault

-- why bytes are no name
abbrev pub text_of : NameFault → List ℕ
text_of fault.Empty = codes "an empty name"
text_of (fault.TooLong length) = codes "a name of " ++ (decimal length ++ codes " bytes")
text_of (fault.BadByte place) = codes "a byte that no such name has, at place " ++ decimal place
text_of fault.Memory = codes "out of memory"
