-- What an edit names: its network, its PIDs, and the key that it is about with the value that it puts there.
use Rattle.std.specs.Prelude.{ℕ, Bool, true, false, nat_le, ◌&&◌, List, [], ◌∷◌, Option, Some, None}
use Rattle.std.specs.List.{list_any}
use Rattle.alto_rows.specs.declared.key.Key.{Key}
use Rattle.alto_rows.specs.declared.key.Key.TheVariants as key
use Rattle.alto_rows.specs.declared.span.Span.TheVariants as span
use Rattle.alto_rows.specs.declared.value.Value.{Value}
use Rattle.alto_rows.specs.declared.value.Value.TheVariants as value
use Rattle.alto_rows.specs.Rows.{Rows, has_row}
use Rattle.alto_rows.specs.Span.{count_in}
use Rattle.alto_edits.specs.declared.edit.Edit.{Edit}
use Rattle.alto_edits.specs.declared.edit.Edit.TheVariants as edit
use Rattle.alto_edits.specs.declared.rule.Rule.TheVariants as rule
use Rattle.alto_edits.specs.Rules.{Check, lacks, entity_pids}
use Rattle.alto_edits.specs.Writes.{is_free, property_value}

-- the network of an edit
abbrev pub edit_net : Edit → List ℕ
edit_net (edit.NetAdd net) = net
edit_net (edit.NetDrop net) = net
edit_net (edit.PidAdd net pid) = net
edit_net (edit.PidDrop net pid) = net
edit_net (edit.PrefixPut net pid prefix) = net
edit_net (edit.PrefixDel net pid prefix) = net
edit_net (edit.MetricAdd net metric) = net
edit_net (edit.MetricDrop net metric) = net
edit_net (edit.CostPut net metric source destination cost) = net
edit_net (edit.CostDel net metric source destination) = net
edit_net (edit.PropPut net entity name v) = net
edit_net (edit.PropDel net entity name) = net
edit_net (edit.AneAdd net ane) = net
edit_net (edit.AneSet net ane name number) = net
edit_net (edit.PathPut net source destination anes) = net
edit_net (edit.PathDel net source destination) = net

-- the PIDs that have to be declared for an edit
abbrev pub edit_pids : Edit → List (List ℕ)
edit_pids (edit.PidDrop net pid) = pid ∷ []
edit_pids (edit.PrefixPut net pid prefix) = pid ∷ []
edit_pids (edit.PrefixDel net pid prefix) = pid ∷ []
edit_pids (edit.CostPut net metric source destination cost) = source ∷ destination ∷ []
edit_pids (edit.CostDel net metric source destination) = source ∷ destination ∷ []
edit_pids (edit.PropPut net entity name v) = entity_pids entity
edit_pids (edit.PropDel net entity name) = entity_pids entity
edit_pids (edit.PathPut net source destination anes) = source ∷ destination ∷ []
edit_pids (edit.PathDel net source destination) = source ∷ destination ∷ []
edit_pids _ = []

-- the key that an edit is about
abbrev pub edit_key : Edit → Key
edit_key (edit.NetAdd net) = key.Net net
edit_key (edit.NetDrop net) = key.Net net
edit_key (edit.PidAdd net pid) = key.Pid net pid
edit_key (edit.PidDrop net pid) = key.Pid net pid
edit_key (edit.PrefixPut net pid prefix) = key.Prefix net pid prefix
edit_key (edit.PrefixDel net pid prefix) = key.Prefix net pid prefix
edit_key (edit.MetricAdd net metric) = key.Metric net metric
edit_key (edit.MetricDrop net metric) = key.Metric net metric
edit_key (edit.CostPut net metric source destination cost) = key.Cost net metric source destination
edit_key (edit.CostDel net metric source destination) = key.Cost net metric source destination
edit_key (edit.PropPut net entity name v) = key.Prop net entity name
edit_key (edit.PropDel net entity name) = key.Prop net entity name
edit_key (edit.AneAdd net ane) = key.Ane net ane
edit_key (edit.AneSet net ane name number) = key.AneProp net ane name
edit_key (edit.PathPut net source destination anes) = key.Path net source destination
edit_key (edit.PathDel net source destination) = key.Path net source destination

-- the value that an edit leaves at that key
abbrev pub edit_value : Edit → Option Value
edit_value (edit.NetDrop net) = None
edit_value (edit.PidDrop net pid) = None
edit_value (edit.PrefixDel net pid prefix) = None
edit_value (edit.MetricDrop net metric) = None
edit_value (edit.CostPut net metric source destination cost) = Some (value.Num cost)
edit_value (edit.CostDel net metric source destination) = None
edit_value (edit.PropPut net entity name v) = Some (property_value v)
edit_value (edit.PropDel net entity name) = None
edit_value (edit.AneSet net ane name number) = Some (value.Num number)
edit_value (edit.PathPut net source destination anes) = Some (value.Names anes)
edit_value (edit.PathDel net source destination) = None
edit_value _ = Some value.Unit

-- an edit has one write: it withdraws nothing and puts no prefix
abbrev pub has_one_write : Edit → Bool
has_one_write (edit.NetDrop net) = false
has_one_write (edit.PidDrop net pid) = false
has_one_write (edit.MetricDrop net metric) = false
has_one_write (edit.PrefixPut net pid prefix) = false
has_one_write _ = true

-- the check that a cost is known, or there is room for it
abbrev pub room_check : Rows → List ℕ → List ℕ → List ℕ → List ℕ → Check
room_check rows net metric source destination = (
  rule.G12,
  lacks rows (key.Cost net metric source destination) && nat_le 262144 (count_in rows (span.CostsIn net metric)),
)

-- the checks of a cost that is put where its network, its metric and its source are declared
abbrev pub next_cost_checks : Rows → List ℕ → List ℕ → List ℕ → List ℕ → List Check
next_cost_checks rows net metric source destination =
    (rule.G6, lacks rows (key.Pid net destination)) ∷ room_check rows net metric source destination ∷ []

-- the checks of an edit besides those of its network and its PIDs
abbrev pub own_checks : Rows → Edit → List Check
own_checks rows (edit.NetAdd net) =
    (rule.G1, has_row rows (key.Net net)) ∷ (rule.G2, nat_le 8 (count_in rows span.Nets)) ∷ []
own_checks rows (edit.PidAdd net pid) =
    (rule.G4, has_row rows (key.Pid net pid)) ∷ (rule.G5, nat_le 1024 (count_in rows (span.Pids net))) ∷ []
own_checks rows (edit.PrefixPut net pid prefix) =
    (rule.G7, is_free rows net prefix && nat_le 16384 (count_in rows (span.Prefixes net))) ∷ []
own_checks rows (edit.PrefixDel net pid prefix) = (rule.G8, lacks rows (key.Prefix net pid prefix)) ∷ []
own_checks rows (edit.MetricAdd net metric) =
    (rule.G9, has_row rows (key.Metric net metric)) ∷ (rule.G10, nat_le 8 (count_in rows (span.Metrics net))) ∷ []
own_checks rows (edit.MetricDrop net metric) = (rule.G11, lacks rows (key.Metric net metric)) ∷ []
own_checks rows (edit.CostPut net metric source destination cost) =
    (rule.G11, lacks rows (key.Metric net metric))
    ∷ room_check rows net metric source destination
    ∷ []
own_checks rows (edit.CostDel net metric source destination) =
    (rule.G11, lacks rows (key.Metric net metric))
    ∷ (rule.G13, lacks rows (key.Cost net metric source destination))
    ∷ []
own_checks rows (edit.PropDel net entity name) = (rule.G13, lacks rows (key.Prop net entity name)) ∷ []
own_checks rows (edit.AneAdd net ane) = (rule.G14, has_row rows (key.Ane net ane)) ∷ []
own_checks rows (edit.AneSet net ane name number) = (rule.G15, lacks rows (key.Ane net ane)) ∷ []
own_checks rows (edit.PathPut net source destination anes) =
    (rule.G15, list_any (λ ane. lacks rows (key.Ane net ane)) anes) ∷ []
own_checks rows (edit.PathDel net source destination) = (rule.G13, lacks rows (key.Path net source destination)) ∷ []
own_checks rows _ = []
