-- The changes that writes make one by one.
use Rattle.std.specs.Prelude.{List, [], ◌∷◌, Option, map, if◌then◌else◌}
use Rattle.std.specs.Ordering.{is_lt}
use Rattle.alto_rows.specs.declared.key.Key.{Key}
use Rattle.alto_rows.specs.declared.value.Value.{Value}
use Rattle.alto_rows.specs.declared.write.Write.{Write}
use Rattle.alto_rows.specs.Changes.{Changes}
use Rattle.alto_rows.specs.Order.{key_cmp}

-- a key with the value that it then has, if any
abbrev pub OneChange : Type 0
OneChange = Key × Option Value

-- the change that a write makes
abbrev pub change_made : Write → OneChange
change_made write = (write.key, write.value)

-- the change of each write, in their order
abbrev pub changes_made : List Write → Changes
changes_made writes = map change_made writes

-- a change, where it is the last of its key: these are behind it, in the order of their keys
abbrev pub last_of : OneChange → Changes → Changes
last_of change [] = change ∷ []
last_of change (next ∷ behind) = if is_lt (key_cmp change.0 next.0) then change ∷ [] else []
