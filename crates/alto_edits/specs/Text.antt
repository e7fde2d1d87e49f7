-- The names of rules and the text of a fault, as they are printed.
use Rattle.std.specs.Prelude.{ℕ, List, ◌++◌, codes, decimal}
use Rattle.alto_edits.specs.declared.rule.Rule.{Rule}
use Rattle.alto_edits.specs.declared.rule.Rule.TheVariants as rule
use Rattle.alto_edits.specs.declared.rule.CompileFault.{CompileFault}
use Rattle.alto_edits.specs.declared.rule.CompileFault.TheVariants as fault

-- the name by which clients know a rule
abbrev pub name_of : Rule → List ℕ
name_of rule.G1 = codes "G1"
name_of rule.G2 = codes "G2"
name_of rule.G3 = codes "G3"
name_of rule.G4 = codes "G4"
name_of rule.G5 = codes "G5"
name_of rule.G6 = codes "G6"
name_of rule.G7 = codes "G7"
name_of rule.G8 = codes "G8"
name_of rule.G9 = codes "G9"
name_of rule.G10 = codes "G10"
name_of rule.G11 = codes "G11"
name_of rule.G12 = codes "G12"
name_of rule.G13 = codes "G13"
name_of rule.G14 = codes "G14"
name_of rule.G15 = codes "G15"
name_of rule.G16 = codes "G16"
name_of rule.G17 = codes "G17"
name_of rule.G18 = codes "G18"

-- why edits make no batch
abbrev pub text_of : CompileFault → List ℕ
text_of (fault.Broken row rule) = codes "edit " ++ (decimal row ++ (codes " breaks rule " ++ name_of rule))
text_of fault.Memory = codes "out of memory"
