-- Rows: a list of keys with their values, in the order of the keys, and what writes make of it.
use Rattle.std.specs.Prelude.{◌≡◌, Bool, not, List, [], ◌∷◌, ◌++◌, filter, Option, Some, None, is_some}
use Rattle.std.specs.Ordering.{is_gt, is_lt}
use Rattle.std.specs.BTreeMap.{insert_entry, is_at}
use Rattle.std.specs.Map.{keys_of, lookup, remove_entry}
use Rattle.std.specs.List.Sorted.{IsStrictlySortedBy}
use Rattle.alto_rows.specs.declared.key.Key.{Key}
use Rattle.alto_rows.specs.declared.value.Value.{Value}
use Rattle.alto_rows.specs.declared.write.Write.{Write}
use Rattle.alto_rows.specs.Order.{key_cmp}

-- keys with their values
abbrev pub Rows : Type 0
Rows = List (Key × Value)

-- the keys rise, so none stands twice
abbrev pub AreSorted : Rows → Type 0
AreSorted rows = IsStrictlySortedBy key_cmp (keys_of rows)

-- the value at a key
abbrev pub value_of : Rows → Key → Option Value
value_of rows key = lookup (is_at (key_cmp key)) rows

-- whether a key has a row
abbrev pub has_row : Rows → Key → Bool
has_row rows key = is_some (value_of rows key)

-- the rows with a value at a key, or, with none, without the key
abbrev pub with_value : Rows → Key → Option Value → Rows
with_value rows key None = remove_entry (is_at (key_cmp key)) rows
with_value rows key (Some value) = insert_entry key_cmp rows key value

-- the rows after writes, one after another
abbrev pub after : Rows → List Write → Rows
after rows [] = rows
after rows (write ∷ writes) = after (with_value rows write.key write.value) writes

-- the rows at or after a key
abbrev pub rows_from : Rows → Key → Rows
rows_from rows key = filter (λ row. not (is_gt (key_cmp key row.0))) rows

-- the rows after a key
abbrev pub rows_past : Rows → Key → Rows
rows_past rows key = filter (λ row. is_lt (key_cmp key row.0)) rows

-- the first rows of a list, some of them where there are any
pub record IsRunOf (all run : Rows) : Type 0 where
  pub rest : Rows
  pub whole : all ≡ run ++ rest
  pub some : run ≡ [] → all ≡ []
