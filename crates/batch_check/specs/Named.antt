-- What rows name is declared: which rows name what isn't, and which names a batch withdraws.
use Rattle.std.specs.Prelude.{◌≡◌, Bool, true, false, ◌&&◌, ◌||◌, List, All, Option, Some, None}
use Rattle.std.specs.BTreeSet.{BTreeSet, contains}
use Rattle.std.specs.List.{list_any}
use Rattle.std.specs.Ordering.{is_eq}
use Rattle.alto_rows.specs.declared.key.Key.{Key}
use Rattle.alto_rows.specs.declared.key.Key.TheVariants as key
use Rattle.alto_rows.specs.declared.value.Value.{Value}
use Rattle.alto_rows.specs.declared.write.Write.{Write}
use Rattle.alto_rows.specs.Good.{needs}
use Rattle.alto_rows.specs.Order.{key_cmp}
use Rattle.alto_rows.specs.Rows.{Rows, value_of, has_row}
use Rattle.alto_edits.specs.Rules.{lacks}

-- what a row names is declared
abbrev pub AreDeclared : Rows → Type 0
AreDeclared rows =
    (at : Key) (v : Value) → value_of rows at ≡ Some v → All (λ need. has_row rows need ≡ true) (needs at v)

-- a row names what isn't declared
abbrev pub is_orphan : Rows → Key × Value → Bool
is_orphan rows row = list_any (lacks rows) (needs row.0 row.1)

-- the row of a key, if it has this value, names what isn't declared
abbrev pub orphans : Rows → Key → Option Value → Bool
orphans rows at None = false
orphans rows at (Some v) = is_orphan rows (at, v)

-- a row that is written names what isn't declared
abbrev pub puts_orphan : Rows → List Write → Bool
puts_orphan rows writes = list_any (λ write. orphans rows write.key (value_of rows write.key)) writes

-- some write is of the key
abbrev pub is_written_key : List Write → Key → Bool
is_written_key writes at = list_any (λ write. is_eq (key_cmp at write.key)) writes

-- a row of the key declares a name: of a network, a PID, a metric or an abstract network element
abbrev pub declares : Key → Bool
declares (key.Net net) = true
declares (key.Pid net pid) = true
declares (key.Metric net metric) = true
declares (key.Ane net ane) = true
declares _ = false

-- a key would declare a name, and has no row
abbrev pub is_gone : Rows → Key → Bool
is_gone rows at = declares at && lacks rows at

-- the set has the written keys that would declare a name and have no row
abbrev pub AreWithdrawn : Rows → List Write → BTreeSet Key → Type 0
AreWithdrawn rows writes gone =
    (at : Key) → contains key_cmp gone at ≡ (is_written_key writes at && is_gone rows at)

-- a row names a key of a set
abbrev pub names_some : BTreeSet Key → Key × Value → Bool
names_some gone row = list_any (contains key_cmp gone) (needs row.0 row.1)

-- the later set has what the earlier has and, where a test holds, a key
abbrev pub HasGone : Bool → Key → BTreeSet Key → BTreeSet Key → Type 0
HasGone test key earlier later =
    (at : Key) → contains key_cmp later at ≡ (contains key_cmp earlier at || (is_eq (key_cmp at key) && test))
