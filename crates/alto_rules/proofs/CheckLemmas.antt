-- The first rule that an edit breaks is of its network, of its PIDs, or its own.
use Rattle.std.proofs.Common.{◌≡◌, ◌≤◌, ◌<◌, refl, ap, sym, ◌∙◌, arith, tests}
use Rattle.std.proofs.lemmas.List.Sums.{count_by-le-length, length-filter}
use Rattle.std.specs.Prelude.{ℕ, nat_le, length, Bool, true, false, not, ◌&&◌, ◌||◌, cond, List, [], ◌∷◌}
use Rattle.std.specs.Prelude.{Option, Some, None}
use Rattle.std.specs.List.{list_any}
use Rattle.alto_rows.specs.declared.key.Key.TheVariants as key
use Rattle.alto_rows.specs.declared.span.Span.{Span}
use Rattle.alto_rows.specs.Rows.{Rows, has_row}
use Rattle.alto_rows.specs.Span.{count_in, is_in}
use Rattle.alto_edits.specs.declared.edit.Edit.{Edit}
use Rattle.alto_edits.specs.declared.edit.Edit.TheVariants as edit
use Rattle.alto_edits.specs.declared.rule.Rule.{Rule}
use Rattle.alto_edits.specs.declared.rule.Rule.TheVariants as rule
use Rattle.alto_edits.specs.Rules.{Check, broken_rule, first_broken, in_net, with_pids, lacks}
use Rattle.alto_rules.specs.Origin.{IsDeclared}
use Rattle.alto_rules.specs.Parts.{edit_net, edit_pids, next_cost_checks, own_checks, room_check}
use Rattle.alto_rules.specs.Sizes.{is_full}

-- the first check, or else those behind it
pub first_check : (broken : Rule) (b : Bool) (rest : List Check)
    → first_broken ((broken, b) ∷ rest) ≡ cond b (Some broken) (first_broken rest)
first_check broken true rest = refl
first_check broken false rest = refl

-- the rule of an edit's network, or else of its PIDs, or else its own
abbrev in_turn : Rows → List ℕ → List (List ℕ) → List Check → Option Rule
in_turn rows net pids own =
    cond (lacks rows (key.Net net)) (Some rule.G3) (cond (list_any (λ pid. lacks rows (key.Pid net pid)) pids)
    (Some rule.G6) (first_broken own))

of_net : (rows : Rows) (net : List ℕ) (own : List Check) → first_broken (in_net rows net own) ≡ in_turn rows net [] own
of_net rows net own = first_check rule.G3 (lacks rows (key.Net net)) own

of_pids : (rows : Rows) (net : List ℕ) (pids : List (List ℕ)) (own : List Check)
    → first_broken (in_net rows net (with_pids rows net pids own)) ≡ in_turn rows net pids own
of_pids rows net pids own =
    first_check rule.G3 (lacks rows (key.Net net)) (with_pids rows net pids own)
    ∙ ap (λ more. cond (lacks rows (key.Net net)) (Some rule.G3) more)
    (first_check rule.G6 (list_any (λ pid. lacks rows (key.Pid net pid)) pids) own)

-- of any edit but `net-add`
pub broken_in_turn : (rows : Rows) (of : Edit) → ((net : List ℕ) → of ≡ edit.NetAdd net → ⊥)
    → broken_rule rows of ≡ in_turn rows (edit_net of) (edit_pids of) (own_checks rows of)
unfolding broken_rule
broken_in_turn rows (edit.NetAdd net) other = absurd (other net refl)
broken_in_turn rows (edit.NetDrop net) other = of_net rows net []
broken_in_turn rows (edit.PidAdd net pid) other = of_net rows net (own_checks rows (edit.PidAdd net pid))
broken_in_turn rows (edit.PidDrop net pid) other = of_pids rows net (pid ∷ []) []
broken_in_turn rows (edit.PrefixPut net pid prefix) other =
    of_pids rows net (pid ∷ []) (own_checks rows (edit.PrefixPut net pid prefix))
broken_in_turn rows (edit.PrefixDel net pid prefix) other =
    of_pids rows net (pid ∷ []) (own_checks rows (edit.PrefixDel net pid prefix))
broken_in_turn rows (edit.MetricAdd net metric) other = of_net rows net (own_checks rows (edit.MetricAdd net metric))
broken_in_turn rows (edit.MetricDrop net metric) other = of_net rows net (own_checks rows (edit.MetricDrop net metric))
broken_in_turn rows (edit.CostPut net metric source destination cost) other =
    of_pids rows net (source ∷ destination ∷ []) (own_checks rows (edit.CostPut net metric source destination cost))
broken_in_turn rows (edit.CostDel net metric source destination) other =
    of_pids rows net (source ∷ destination ∷ []) (own_checks rows (edit.CostDel net metric source destination))
broken_in_turn rows (edit.PropPut net entity name v) other =
    of_pids rows net (edit_pids (edit.PropPut net entity name v)) []
broken_in_turn rows (edit.PropDel net entity name) other =
    of_pids rows net (edit_pids (edit.PropDel net entity name)) (own_checks rows (edit.PropDel net entity name))
broken_in_turn rows (edit.AneAdd net ane) other = of_net rows net (own_checks rows (edit.AneAdd net ane))
broken_in_turn rows (edit.AneSet net ane name number) other =
    of_net rows net (own_checks rows (edit.AneSet net ane name number))
broken_in_turn rows (edit.PathPut net source destination anes) other =
    of_pids rows net (source ∷ destination ∷ []) (own_checks rows (edit.PathPut net source destination anes))
broken_in_turn rows (edit.PathDel net source destination) other =
    of_pids rows net (source ∷ destination ∷ []) (own_checks rows (edit.PathDel net source destination))

-- `net-add` has its own alone
pub broken_added : (rows : Rows) (net : List ℕ)
    → broken_rule rows (edit.NetAdd net) ≡ first_broken (own_checks rows (edit.NetAdd net))
unfolding broken_rule
broken_added rows net = refl

pub added_rule : (rows : Rows) (of : Edit) (net : List ℕ) → of ≡ edit.NetAdd net
    → first_broken (own_checks rows of) ≡ broken_rule rows of
added_rule rows of net is = rw is (sym (broken_added rows net))

-- of any other edit, the first that holds
pub of_net_rule : (rows : Rows) (of : Edit) → ((net : List ℕ) → of ≡ edit.NetAdd net → ⊥)
    → has_row rows (key.Net (edit_net of)) ≡ false
    → Some rule.G3 ≡ broken_rule rows of
of_net_rule rows of other h = rw (broken_in_turn rows of other, h) refl

pub of_pid_rule : (rows : Rows) (of : Edit) → ((net : List ℕ) → of ≡ edit.NetAdd net → ⊥)
    → has_row rows (key.Net (edit_net of)) ≡ true
    → list_any (λ pid. lacks rows (key.Pid (edit_net of) pid)) (edit_pids of) ≡ true
    → Some rule.G6 ≡ broken_rule rows of
of_pid_rule rows of other h k = rw (broken_in_turn rows of other, h, k) refl

pub of_own_rule : (rows : Rows) (of : Edit) → ((net : List ℕ) → of ≡ edit.NetAdd net → ⊥)
    → has_row rows (key.Net (edit_net of)) ≡ true
    → list_any (λ pid. lacks rows (key.Pid (edit_net of) pid)) (edit_pids of) ≡ false
    → first_broken (own_checks rows of) ≡ broken_rule rows of
of_own_rule rows of other h k = rw (broken_in_turn rows of other, h, k) refl

-- of a cost that is put where its network, its metric and its source are declared, the first that holds
pub next_cost_rule : (rows : Rows) (of : Edit) (net metric source destination : List ℕ) (cost : ℕ)
    → of ≡ edit.CostPut net metric source destination cost
    → IsDeclared rows (record { net = net; metric = metric; source = source })
    → first_broken (next_cost_checks rows net metric source destination) ≡ broken_rule rows of
unfolding broken_rule
next_cost_rule rows of net metric source destination cost is declared =
    rw (is, declared.0, declared.1, declared.2) (by (has_row rows (key.Pid net destination)))
  where
    by : (b : Bool) → first_broken ((rule.G6, not b) ∷ room_check rows net metric source destination ∷ [])
        ≡ first_broken ((rule.G6, not b || false) ∷ room_check rows net metric source destination ∷ [])
    by true = refl
    by false = refl

-- of such a cost whose destination is declared, none where there is room
pub next_cost_fits : (rows : Rows) (net metric source destination : List ℕ)
    → lacks rows (key.Pid net destination) ≡ false
    → is_full rows (key.Cost net metric source destination) 262144 ≡ false
    → None ≡ first_broken (next_cost_checks rows net metric source destination)
next_cost_fits rows net metric source destination =
    by (lacks rows (key.Pid net destination)) (lacks rows (key.Cost net metric source destination))
    (is_full rows (key.Cost net metric source destination) 262144)
  where
    by : (pid cost full : Bool) → pid ≡ false → full ≡ false
        → None ≡ first_broken ((rule.G6, pid) ∷ (rule.G12, cost && full) ∷ [])
    by pid true full known room = rw (known, room) refl
    by pid false full known room = rw known refl

-- and where there is none, that of a cost without a row
pub next_cost_lacks : (rows : Rows) (net metric source destination : List ℕ)
    → lacks rows (key.Pid net destination) ≡ false
    → is_full rows (key.Cost net metric source destination) 262144 ≡ true
    → first_broken ((rule.G12, lacks rows (key.Cost net metric source destination)) ∷ [])
    ≡ first_broken (next_cost_checks rows net metric source destination)
next_cost_lacks rows net metric source destination =
    by (lacks rows (key.Pid net destination)) (lacks rows (key.Cost net metric source destination))
    (is_full rows (key.Cost net metric source destination) 262144)
  where
    by : (pid cost full : Bool) → pid ≡ false → full ≡ true
        → first_broken ((rule.G12, cost) ∷ []) ≡ first_broken ((rule.G6, pid) ∷ (rule.G12, cost && full) ∷ [])
    by pid true full known room = rw (known, room) refl
    by pid false full known room = rw known refl

-- where there are fewer rows than there may be of something, there is room for it
pub few_rows : (rows : Rows) (of : Span) (most : ℕ) → length rows < most → false ≡ nat_le most (count_in rows of)
few_rows rows of most few =
    let within : count_in rows of ≤ length rows =
    rw (length-filter (λ row. is_in of row.0) rows) (count_by-le-length (λ row. is_in of row.0) rows) in
    grind (arith, tests)
