-- Lists in which some names have other items, or none.
use Rattle.std.specs.Option.{option_to_list}
use Rattle.std.specs.Prelude.{List, ◌++◌, Option}
use Rattle.std.specs.List.{fold}
use Rattle.shared_list.specs.Order.{Name, before, behind}

-- a name, and the item that it then has, if any
abbrev pub Change : Type 0 → Type 0
Change X = Name × Option X

module _ {X : Type 0} (name : X → Name) where
  -- items in order, where a name has another item, or none
  abbrev pub with_change : List X → Change X → List X
  with_change items change = before name change.0 items ++ option_to_list change.1 ++ behind name change.0 items

  -- items in order after changes
  abbrev pub changed : List X → List (Change X) → List X
  changed items changes = fold with_change items changes
