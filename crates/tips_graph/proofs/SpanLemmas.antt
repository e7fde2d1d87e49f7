-- The keys of an edge that can be had are those of the pushes between, and so those of its list where it is kept.
use Rattle.std.proofs.Common.{◌≡◌, ◌≢◌, ℕ, ◌+◌, ◌-◌, ◌%◌, ◌<◌, ◌≤◌, length, take, drop, refl, sym, ap, ◌∙◌, arith, suc}
use Rattle.std.proofs.Common.{zero}
use Rattle.std.proofs.lemmas.Bool.Decides.{nat_tests}
use Rattle.std.specs.Prelude.{Bool, true, false, nat_lt, List, [], ◌∷◌, Option, Some, None, IfSome, option_map}
use Rattle.std.specs.Prelude.{slice_get, if◌then◌else◌, IsTrue}
use Rattle.alto_rows.specs.declared.key.Key.{Key}
use Rattle.tips_graph.specs.Edges.{is_shape, edge_status}
use Rattle.tips_graph.specs.Graph.{GraphData, Push, first_of, last_of, keeps, status_of, is_step_here, pushes_between}
use Rattle.tips_graph.specs.Graph.{span_of}
use Rattle.tips_graph.specs.Keys.{key_set}
use Rattle.tips_graph.specs.Shortcuts.{StepData, HasLists, IsStride, list_of, before_kept}
use Rattle.tips_graph.specs.Table.{IsPast}
use Rattle.tips_graph.proofs.ShortcutLemmas.{keys_of}
use Rattle.tips_graph.proofs.StatusLemmas.{here_by}
use Rattle.tips_graph.specs.declared.status.EdgeStatus.{EdgeStatus}
use Rattle.tips_graph.specs.declared.status.EdgeStatus.TheVariants.{Here}

-- an edge between versions leads onward by a stride that divides both
pub record IsShape (i j : ℕ) : Type 0 where
  pub onward : i < j
  pub stride : IsStride (j - i)
  pub divides : j % (j - i) ≡ 0

-- what an edge between versions is
pub shape_is : (i j : ℕ) → i ≢ 0 → IsTrue (is_shape i j) → IsShape i j
shape_is i j some shape = record {
  onward = grind (arith, nat_tests);
  stride = grind (arith, nat_tests);
  divides = grind (arith, nat_tests);
}

-- an edge leads onward, to a number from the first to the last
pub record LeadsOnward (first last i j : ℕ) : Type 0 where
  pub onward : i < j
  pub from : first ≤ j
  pub to : j ≤ last

-- where an edge that can be had leads
pub leads_onward : (first last i j : ℕ) → edge_status first last i j ≡ Here → LeadsOnward first last i j
leads_onward first last i j here =
    let by : IsTrue (is_shape i j) × (¬ IsPast first i) × (first ≤ j) × (j ≤ last) =
    (here_by (is_shape i j) first last i j).0 here in
    record { onward = shape_onward i j by.0; from = by.2; to = by.3 }
  where
    shape_onward : (i j : ℕ) → IsTrue (is_shape i j) → i < j
    shape_onward zero j shape = grind (arith, nat_tests)
    shape_onward (suc i) j shape = (shape_is (suc i) j (omega arith) shape).onward

-- where an edge between versions can be had
pub record IsStep (graph : GraphData) (i j : ℕ) : Type 0 where
  pub shape : IsShape i j
  pub from : first_of graph ≤ i
  pub to : j ≤ last_of graph
  pub kept : keeps graph j ≡ true

-- a version that isn't discarded is not before the first
not_past : (first i : ℕ) → i ≢ 0 → (¬ IsPast first i) → first ≤ i
not_past first i some stays = by (nat_lt i first) refl
  where
    by : (b : Bool) → nat_lt i first ≡ b → first ≤ i
    by true e = absurd (stays (omega (arith, some), grind (arith, nat_tests)))
    by false e = grind (arith, nat_tests)

-- an edge between versions that can be had is a step between kept numbers
pub step_here : (graph : GraphData) (i j : ℕ) → i ≢ 0 → status_of graph i j ≡ Here → IsStep graph i j
step_here graph i j some here =
    let by : IsTrue (is_shape i j) × (¬ IsPast (first_of graph) i) × (first_of graph ≤ j) × (j ≤ last_of graph) =
    (here_by (is_shape i j) (first_of graph) (last_of graph) i j).0 here in
    let shape : IsShape i j = shape_is i j some by.0 in
    record {
      shape = shape;
      from = not_past (first_of graph) i some by.1;
      to = by.3;
      kept = grind (arith, nat_tests, shape.onward, by.2, by.3);
    }

-- the numbers from the first that is kept follow the one before it
pub first_is : (graph : GraphData) → 0 < last_of graph → length graph.kept ≤ graph.last
    → first_of graph ≡ before_kept graph + 1
first_is graph some numbered = grind (arith, nat_tests)

-- the first number comes before the last by what is kept
pub last_is : (graph : GraphData) → 0 < last_of graph → length graph.kept ≤ graph.last
    → last_of graph ≡ before_kept graph + length graph.kept
last_is graph some numbered = grind (arith, nat_tests)

-- a choice by a status that lets one have it
chosen_here : (status : EdgeStatus) (i : ℕ) (keys : Option (List Key)) → status ≡ Here → i ≢ 0
    → (if is_step_here status i then keys else None) ≡ keys
chosen_here status i keys here some = rw here (positive i some)
  where
    positive : (i : ℕ) → i ≢ 0 → (if nat_lt 0 i then keys else None) ≡ keys
    positive i some = grind (arith, nat_tests)

-- the keys of an edge that can be had are those of the pushes between
pub span_is : (graph : GraphData) (i j : ℕ) → i ≢ 0 → status_of graph i j ≡ Here
    → span_of graph i j ≡ Some (key_set (keys_of (pushes_between graph i j)))
span_is graph i j some here = chosen_here (status_of graph i j) i _ here some

-- and those of a list that is kept for it
pub span_at : (graph : GraphData) (i j : ℕ) (step : StepData) (keys : List Key) → length graph.kept ≤ graph.last
    → i ≢ 0 → status_of graph i j ≡ Here → HasLists (before_kept graph) graph.kept j step
    → Some keys ≡ list_of step (j - i) → Some keys ≡ span_of graph i j
span_at graph i j step keys numbered some here lists kept =
    let edge : IsStep graph i j = step_here graph i j some here in
    let first : first_of graph ≡ before_kept graph + 1 =
    first_is graph (omega (arith, edge.to, edge.shape.onward)) numbered in
    let place : j - (j - i) - before_kept graph ≡ i + 1 - first_of graph =
    omega (arith, first, edge.shape.onward, edge.from) in
    ap (λ (keys : List Key). Some keys)
    (lists (j - i) edge.shape.stride keys (sym kept) edge.shape.divides
    (omega (arith, first, edge.shape.onward, edge.from))
    ∙ ap (λ (k : ℕ). key_set (keys_of (take (j - i) (drop k graph.kept)))) place)
    ∙ sym (span_is graph i j some here)

-- as that of a single step is
pub single_at : (graph : GraphData) (i j : ℕ) (step : StepData) → length graph.kept ≤ graph.last
    → i ≢ 0 → status_of graph i j ≡ Here → HasLists (before_kept graph) graph.kept j step
    → j ≡ i + 1 → list_of step (j - i) ≡ span_of graph i j
single_at graph i j step numbered some here lists single =
    let one : j - i ≡ 1 = omega (arith, single) in
    let kept : list_of step (j - i) ≡ Some step.keys = ap (list_of step) one in
    kept ∙ span_at graph i j step step.keys numbered some here lists (sym kept)

-- so are those of a list that may be kept, where it is
pub kept_span_at : {X : Type 0} (value : X → List Key) (list : Option X) (graph : GraphData) (i j : ℕ) (step : StepData)
    → length graph.kept ≤ graph.last → i ≢ 0 → status_of graph i j ≡ Here
    → HasLists (before_kept graph) graph.kept j step → option_map value list ≡ list_of step (j - i)
    → IfSome list (λ keys. Some (value keys) ≡ span_of graph i j)
kept_span_at value None graph i j step numbered some here lists kept = tt
kept_span_at value (Some keys) graph i j step numbered some here lists kept =
    span_at graph i j step (value keys) numbered some here lists kept

-- a place within a list has an item
some_at : (pushes : List Push) (k : ℕ) → k < length pushes → slice_get pushes k ≢ None
some_at [] k within = absurd (omega arith)
some_at (push ∷ pushes) zero within = λ none. cc
some_at (push ∷ pushes) (suc k) within = some_at pushes k (omega arith)

-- so where an edge can be had, the number that it leads to is kept
pub no_gap : (graph : GraphData) (i j : ℕ) → length graph.kept ≤ graph.last → i ≢ 0 → status_of graph i j ≡ Here
    → None ≡ (if keeps graph j then slice_get graph.kept (j - first_of graph) else None) → ⊥
no_gap graph i j numbered some here none =
    let edge : IsStep graph i j = step_here graph i j some here in
    let positive : 0 < last_of graph = omega (arith, edge.to, edge.shape.onward) in
    some_at graph.kept (j - first_of graph)
    (omega (
      arith,
      first_is graph positive numbered,
      last_is graph positive numbered,
      edge.to,
      edge.from,
      edge.shape.onward,
    ))
    (sym (none ∙ chosen (keeps graph j) (slice_get graph.kept (j - first_of graph)) edge.kept))
  where
    chosen : (b : Bool) (found : Option Push) → b ≡ true → (if b then found else None) ≡ found
    chosen true found h = refl
    chosen false found h = cc
