-- Sets of keys, as lists in the order of keys.
use Rattle.std.specs.Prelude.{List, [], fold}
use Rattle.std.specs.BTreeSet.{insert_key}
use Rattle.alto_rows.specs.declared.key.Key.{Key}
use Rattle.alto_rows.specs.Order.{key_cmp}

-- the distinct keys of a list, in their order
abbrev pub key_set : List Key → List Key
key_set keys = fold (insert_key key_cmp) [] keys
