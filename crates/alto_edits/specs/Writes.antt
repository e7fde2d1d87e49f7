-- The writes that an edit makes in the rows.
use Rattle.std.specs.Prelude.{ℕ, Bool, false, not, ◌||◌, ◌&&◌, List, [], ◌∷◌, ◌++◌, filter, map, Some, None}
use Rattle.std.specs.List.{list_any}
use Rattle.std.specs.Ordering.{is_eq}
use Rattle.alto_addr.specs.declared.prefix.Prefix.{Prefix}
use Rattle.alto_addr.specs.Order.{prefix_cmp}
use Rattle.alto_rows.specs.declared.key.Key.{Key}
use Rattle.alto_rows.specs.declared.key.Key.TheVariants as key
use Rattle.alto_rows.specs.declared.value.Value.{Value}
use Rattle.alto_rows.specs.declared.value.Value.TheVariants as value
use Rattle.alto_rows.specs.declared.write.Write.{Write}
use Rattle.alto_rows.specs.Good.{needs}
use Rattle.alto_rows.specs.Order.{key_cmp, same_name}
use Rattle.alto_rows.specs.Rows.{Rows}
use Rattle.alto_edits.specs.declared.edit.Edit.{Edit}
use Rattle.alto_edits.specs.declared.edit.Edit.TheVariants as edit
use Rattle.alto_edits.specs.declared.edit.PropValue.{PropValue}
use Rattle.alto_edits.specs.declared.edit.PropValue.TheVariants as property

-- a write that puts a value
abbrev pub putting : Key → Value → Write
putting at v = record { key = at; value = Some v }

-- a write that deletes a key
abbrev pub deleting : Key → Write
deleting at = record { key = at; value = None }

-- two keys are one
abbrev pub same_key : Key → Key → Bool
same_key a b = is_eq (key_cmp a b)

-- a row names what a key declares: it is its row, or the key is among those that declare what the row names
abbrev pub names : Key → Key × Value → Bool
names declared row = same_key declared row.0 || list_any (same_key declared) (needs row.0 row.1)

-- the deletions of the rows that name what a key declares, in the order of the rows
abbrev pub withdrawing : Rows → Key → List Write
withdrawing rows declared = map (λ row. deleting row.0) (filter (names declared) rows)

-- a row gives a prefix to a PID of a network
abbrev pub owns : List ℕ → Prefix → Key × Value → Bool
owns net prefix (key.Prefix of pid other, v) = same_name net of && is_eq (prefix_cmp prefix other)
owns net prefix _ = false

-- the rows that give a prefix to a PID of a network, of which good rows have one at most
abbrev pub owners_of : Rows → List ℕ → Prefix → Rows
owners_of rows net prefix = filter (owns net prefix) rows

-- a prefix is in no PID of a network
abbrev pub is_free : Rows → List ℕ → Prefix → Bool
is_free rows net prefix = not (list_any (owns net prefix) rows)

-- the deletions that take a prefix from all PIDs of a network but one
abbrev pub taking : Rows → List ℕ → List ℕ → Prefix → List Write
taking rows net pid prefix =
    map (λ row. deleting row.0)
    (filter (λ row. not (same_key (key.Prefix net pid prefix) row.0)) (owners_of rows net prefix))

-- the value of a property as a row has it
abbrev pub property_value : PropValue → Value
property_value (property.Text text) = value.Text text
property_value (property.Number n) = value.Num n

-- the writes of an edit
abbrev pub writes_of : Rows → Edit → List Write
writes_of rows (edit.NetAdd net) = putting (key.Net net) value.Unit ∷ []
writes_of rows (edit.NetDrop net) = withdrawing rows (key.Net net)
writes_of rows (edit.PidAdd net pid) = putting (key.Pid net pid) value.Unit ∷ []
writes_of rows (edit.PidDrop net pid) = withdrawing rows (key.Pid net pid)
writes_of rows (edit.PrefixPut net pid prefix) =
    taking rows net pid prefix ++ putting (key.Prefix net pid prefix) value.Unit ∷ []
writes_of rows (edit.PrefixDel net pid prefix) = deleting (key.Prefix net pid prefix) ∷ []
writes_of rows (edit.MetricAdd net metric) = putting (key.Metric net metric) value.Unit ∷ []
writes_of rows (edit.MetricDrop net metric) = withdrawing rows (key.Metric net metric)
writes_of rows (edit.CostPut net metric source destination cost) =
    putting (key.Cost net metric source destination) (value.Num cost) ∷ []
writes_of rows (edit.CostDel net metric source destination) = deleting (key.Cost net metric source destination) ∷ []
writes_of rows (edit.PropPut net entity name v) = putting (key.Prop net entity name) (property_value v) ∷ []
writes_of rows (edit.PropDel net entity name) = deleting (key.Prop net entity name) ∷ []
writes_of rows (edit.AneAdd net ane) = putting (key.Ane net ane) value.Unit ∷ []
writes_of rows (edit.AneSet net ane name number) = putting (key.AneProp net ane name) (value.Num number) ∷ []
writes_of rows (edit.PathPut net source destination anes) =
    putting (key.Path net source destination) (value.Names anes) ∷ []
writes_of rows (edit.PathDel net source destination) = deleting (key.Path net source destination) ∷ []
