-- What the edits of an import may hold.
use Rattle.std.specs.Prelude.{◌≡◌, ℕ, ◌≤◌, Bool, not, ◌||◌, ◌==◌, nat_lt, List, length, All, IsTrue, IsUtf8, codes}
use Rattle.alto_names.specs.Name.{IsNetName, IsPidName, IsMetric, IsAneName}
use Rattle.alto_rows.specs.declared.key.Key.TheVariants as key
use Rattle.alto_rows.specs.Good.{IsAmount, IsKey}
use Rattle.alto_edits.specs.declared.edit.Edit.{Edit}
use Rattle.alto_edits.specs.declared.edit.Edit.TheVariants as edit
use Rattle.alto_edits.specs.declared.edit.PropValue.{PropValue}
use Rattle.alto_edits.specs.declared.edit.PropValue.TheVariants as property

-- a byte of a control character of US-ASCII
abbrev pub is_control : ℕ → Bool
is_control byte = nat_lt byte 0x20 || byte == 0x7F

-- a text of up to 256 bytes without control characters, or a number
abbrev pub IsPropValue : PropValue → Type 0
IsPropValue (property.Text text) = IsUtf8 text × (length text ≤ 256) × All (λ byte. IsTrue (not (is_control byte))) text
IsPropValue (property.Number n) = IsAmount n

-- the one property of an abstract network element (RFC 9275, section 6.4.1)
abbrev pub max_reservable_bandwidth : List ℕ
max_reservable_bandwidth = codes "max-reservable-bandwidth"

-- the names of an edit are of their alphabets, and its values in their ranges
abbrev pub IsEdit : Edit → Type 0
IsEdit (edit.NetAdd net) = IsNetName net
IsEdit (edit.NetDrop net) = IsNetName net
IsEdit (edit.PidAdd net pid) = IsKey (key.Pid net pid)
IsEdit (edit.PidDrop net pid) = IsKey (key.Pid net pid)
IsEdit (edit.PrefixPut net pid prefix) = IsKey (key.Prefix net pid prefix)
IsEdit (edit.PrefixDel net pid prefix) = IsKey (key.Prefix net pid prefix)
IsEdit (edit.MetricAdd net metric) = IsKey (key.Metric net metric)
IsEdit (edit.MetricDrop net metric) = IsKey (key.Metric net metric)
IsEdit (edit.CostPut net metric source destination cost) =
    IsKey (key.Cost net metric source destination) × IsAmount cost
IsEdit (edit.CostDel net metric source destination) = IsKey (key.Cost net metric source destination)
IsEdit (edit.PropPut net entity name v) = IsKey (key.Prop net entity name) × IsPropValue v
IsEdit (edit.PropDel net entity name) = IsKey (key.Prop net entity name)
IsEdit (edit.AneAdd net ane) = IsKey (key.Ane net ane)
IsEdit (edit.AneSet net ane name number) =
    IsKey (key.AneProp net ane name) × (name ≡ max_reservable_bandwidth) × IsAmount number
IsEdit (edit.PathPut net source destination anes) =
    IsKey (key.Path net source destination) × All IsAneName anes × (1 ≤ length anes) × (length anes ≤ 64)
IsEdit (edit.PathDel net source destination) = IsKey (key.Path net source destination)
