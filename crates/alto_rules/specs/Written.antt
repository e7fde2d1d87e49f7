-- Which keys have rows after writes of them.
use Rattle.std.specs.Prelude.{◌≡◌, Bool, true, false, cond, Option, Some, None}
use Rattle.std.specs.BTreeMap.{get}
use Rattle.std.specs.Ordering.{is_eq}
use Rattle.alto_rows.specs.declared.key.Key.{Key}
use Rattle.alto_rows.specs.Order.{key_cmp}
use Rattle.alto_rows.specs.Rows.{has_row}
use Rattle.alto_rules.specs.declared.written.Written.{Written}

-- a key that was put has a row, and nothing is told of another
abbrev pub if_put : Bool → Option Bool
if_put true = Some true
if_put false = None

-- what is told first
abbrev pub told_or : Option Bool → Option Bool → Option Bool
told_or (Some has) later = Some has
told_or None later = later

-- whether a key has a row after the writes, where one is of it
abbrev pub told : Written → Key → Option Bool
told written at = told_or (get key_cmp written.other at) (if_put (has_row written.put at))

-- with one write more its key has a row or not, and all others are as they were
abbrev pub Gains : Written → Written → Key → Bool → Type 0
Gains before later at has = (key : Key) → told later key ≡ cond (is_eq (key_cmp at key)) (Some has) (told before key)
