-- Changes of rows: for each of some keys, in their order, the value that it then has, or that it is deleted.
use Rattle.std.specs.Prelude.{◌≡◌, List, [], ◌∷◌, Option, Some, None}
use Rattle.std.specs.List.Sorted.{IsStrictlySortedBy}
use Rattle.std.specs.Map.{keys_of}
use Rattle.alto_rows.specs.declared.key.Key.{Key}
use Rattle.alto_rows.specs.declared.value.Value.{Value}
use Rattle.alto_rows.specs.declared.write.Write.{Write}
use Rattle.alto_rows.specs.Order.{key_cmp}
use Rattle.alto_rows.specs.Rows.{Rows, AreSorted, with_value, after}

-- keys with the value that each then has, if any
abbrev pub Changes : Type 0
Changes = List (Key × Option Value)

-- the keys rise, so none stands twice
abbrev pub AreOrdered : Changes → Type 0
AreOrdered changes = IsStrictlySortedBy key_cmp (keys_of changes)

-- the rows after changes
abbrev pub changed : Rows → Changes → Rows
changed rows [] = rows
changed rows (change ∷ changes) = changed (with_value rows change.0 change.1) changes

-- the changes do what the writes do
abbrev pub DoAs : List Write → Changes → Type 0
DoAs writes changes = (rows : Rows) → AreSorted rows → changed rows changes ≡ after rows writes

-- the row of a key, if it has a value
abbrev pub own_row : Key → Option Value → Rows
own_row key None = []
own_row key (Some value) = (key, value) ∷ []
