-- Which PIDs an ask tells, as the texts in it.
use Rattle.std.specs.Prelude.{List, Option, Some, None}
use Rattle.alto_maps.specs.Shape.{Name}
use Rattle.net_docs.specs.declared.ask.Pick.{Pick}
use Rattle.net_docs.specs.declared.ask.Pick.TheVariants as pick

-- the names that are given; all where there are none
abbrev pub pick_given : Option (List Name) → Pick
pick_given None = pick.All
pick_given (Some names) = pick.Only names

-- the names that a pick tells
abbrev pub names_in : Pick → Option (List Name)
names_in pick.All = None
names_in (pick.Only names) = Some names
