-- What inheriting from the longest block means: the statements of the laws.
use Rattle.std.specs.Prelude.{◌≡◌, ◌↔◌, Option}
use Rattle.alto_addr.specs.declared.prefix.Prefix.{Prefix}
use Rattle.alto_rows.specs.declared.value.Value.{Value}
use Rattle.alto_rows.specs.Rows.{Rows, AreSorted}
use Rattle.alto_maps.specs.Shape.{Name}
use Rattle.prop_filters.specs.Inherit.{IsOfLongest, inherited}

-- what a block inherits is the value of the longest block around it that has the property, nothing where none has it
abbrev pub InheritsFromLongest : Type 0
InheritsFromLongest = (rows : Rows) (net : Name) (block : Prefix) (name : Name) (found : Option Value) → AreSorted rows
    → (inherited rows net block name ≡ found) ↔ IsOfLongest rows net block name found
