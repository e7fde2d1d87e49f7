-- The rules that an edit may break, in their order, each with whether the edit breaks it in the rows.
use Rattle.std.specs.Prelude.{ℕ, Bool, not, ◌&&◌, nat_le, List, [], ◌∷◌, length, find, Option, option_map}
use Rattle.std.specs.List.{list_any}
use Rattle.alto_addr.specs.declared.prefix.Prefix.{Prefix}
use Rattle.alto_rows.specs.declared.entity.Entity.{Entity}
use Rattle.alto_rows.specs.declared.entity.Entity.TheVariants as entity
use Rattle.alto_rows.specs.declared.key.Key.{Key}
use Rattle.alto_rows.specs.declared.key.Key.TheVariants as key
use Rattle.alto_rows.specs.declared.span.Span.TheVariants as span
use Rattle.alto_rows.specs.Rows.{Rows, has_row}
use Rattle.alto_rows.specs.Span.{count_in}
use Rattle.alto_edits.specs.declared.edit.Edit.{Edit}
use Rattle.alto_edits.specs.declared.edit.Edit.TheVariants as edit
use Rattle.alto_edits.specs.declared.rule.Rule.{Rule}
use Rattle.alto_edits.specs.declared.rule.Rule.TheVariants as rule
use Rattle.alto_edits.specs.Writes.{is_free}

-- a rule with whether it is broken
abbrev pub Check : Type 0
Check = Rule × Bool

-- a key has no row
abbrev pub lacks : Rows → Key → Bool
lacks rows at = not (has_row rows at)

-- that the network is declared, and what else is checked
abbrev pub in_net : Rows → List ℕ → List Check → List Check
in_net rows net more = (rule.G3, lacks rows (key.Net net)) ∷ more

-- that these PIDs are declared, and what else is checked
abbrev pub with_pids : Rows → List ℕ → List (List ℕ) → List Check → List Check
with_pids rows net pids more = (rule.G6, list_any (λ pid. lacks rows (key.Pid net pid)) pids) ∷ more

-- the PIDs that an entity names
abbrev pub entity_pids : Entity → List (List ℕ)
entity_pids (entity.Block block) = []
entity_pids (entity.Pid pid) = pid ∷ []

-- the checks of an edit, in the order of the rules
abbrev pub checks : Rows → Edit → List Check
checks rows (edit.NetAdd net) =
    (rule.G1, has_row rows (key.Net net)) ∷ (rule.G2, nat_le 8 (count_in rows span.Nets)) ∷ []
checks rows (edit.NetDrop net) = in_net rows net []
checks rows (edit.PidAdd net pid) =
    in_net rows net (
    (rule.G4, has_row rows (key.Pid net pid)) ∷ (rule.G5, nat_le 1024 (count_in rows (span.Pids net))) ∷ []
    )
checks rows (edit.PidDrop net pid) = in_net rows net (with_pids rows net (pid ∷ []) [])
checks rows (edit.PrefixPut net pid prefix) =
    in_net rows net (with_pids rows net (pid ∷ []) (
    (rule.G7, is_free rows net prefix && nat_le 16384 (count_in rows (span.Prefixes net))) ∷ []
    ))
checks rows (edit.PrefixDel net pid prefix) =
    in_net rows net (with_pids rows net (pid ∷ []) ((rule.G8, lacks rows (key.Prefix net pid prefix)) ∷ []))
checks rows (edit.MetricAdd net metric) =
    in_net rows net (
    (rule.G9, has_row rows (key.Metric net metric)) ∷ (rule.G10, nat_le 8 (count_in rows (span.Metrics net))) ∷ []
    )
checks rows (edit.MetricDrop net metric) = in_net rows net ((rule.G11, lacks rows (key.Metric net metric)) ∷ [])
checks rows (edit.CostPut net metric source destination cost) =
    in_net rows net (with_pids rows net (source ∷ destination ∷ []) (
    (rule.G11, lacks rows (key.Metric net metric))
    ∷ (
      rule.G12,
      lacks rows (key.Cost net metric source destination)
          && nat_le 262144 (count_in rows (span.CostsIn net metric)),
    )
    ∷ []
    ))
checks rows (edit.CostDel net metric source destination) =
    in_net rows net (with_pids rows net (source ∷ destination ∷ []) (
    (rule.G11, lacks rows (key.Metric net metric))
    ∷ (rule.G13, lacks rows (key.Cost net metric source destination))
    ∷ []
    ))
checks rows (edit.PropPut net entity name value) = in_net rows net (with_pids rows net (entity_pids entity) [])
checks rows (edit.PropDel net entity name) =
    in_net rows net (with_pids rows net (entity_pids entity) ((rule.G13, lacks rows (key.Prop net entity name)) ∷ []))
checks rows (edit.AneAdd net ane) = in_net rows net ((rule.G14, has_row rows (key.Ane net ane)) ∷ [])
checks rows (edit.AneSet net ane name number) = in_net rows net ((rule.G15, lacks rows (key.Ane net ane)) ∷ [])
checks rows (edit.PathPut net source destination anes) =
    in_net rows net (with_pids rows net (source ∷ destination ∷ []) (
    (rule.G15, list_any (λ ane. lacks rows (key.Ane net ane)) anes) ∷ []
    ))
checks rows (edit.PathDel net source destination) =
    in_net rows net (with_pids rows net (source ∷ destination ∷ []) (
    (rule.G13, lacks rows (key.Path net source destination)) ∷ []
    ))

-- the first rule that is broken
abbrev pub first_broken : List Check → Option Rule
first_broken checks = option_map (λ check. check.0) (find (λ check. check.1) checks)

-- the first rule that an edit breaks in the rows
unfoldable pub broken_rule : Rows → Edit → Option Rule
broken_rule rows edit = first_broken (checks rows edit)
