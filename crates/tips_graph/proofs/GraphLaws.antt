-- The laws of updates graphs, for the proofs of other crates to cite.
use Rattle.std.proofs.Common.{◌≡◌, ◌≢◌, ℕ, zero, suc, inl, inr, ◌+◌, ◌-◌, ◌<◌, ◌≤◌, ◌⊎◌, ◌↔◌, length, take, drop, refl}
use Rattle.std.proofs.Common.{ap, sym, subst, ◌∙◌, rules, arith, length-drop}
use Rattle.std.proofs.lemmas.Bool.Decides.{nat_tests}
use Rattle.std.proofs.lemmas.Grind.{common_steps}
use Rattle.std.proofs.lemmas.List.{drop-drop}
use Rattle.std.specs.Prelude.{Bool, true, false, ◌&&◌, ◌==◌, nat_lt, nat_le, List, [], ◌∷◌, Option, Some, None}
use Rattle.std.specs.Prelude.{option_map, slice_get, if◌then◌else◌, IsTrue}
use Rattle.std.specs.List.{flat_map}
use Rattle.tips_graph.specs.declared.status.EdgeStatus.{EdgeStatus}
use Rattle.tips_graph.specs.declared.status.EdgeStatus.TheVariants.{Absent, Gone, Awaited, Ahead, Here}
use Rattle.tips_graph.specs.Edges.{first_kept, is_shape, edge_status, longest_stride, recommended_edge}
use Rattle.tips_graph.specs.Graph.{GraphData, Push, graph_from, graph_of, first_of, last_of, keeps, status_of}
use Rattle.tips_graph.specs.Graph.{is_step_here}
use Rattle.tips_graph.specs.Keys.{key_set}
use Rattle.tips_graph.specs.Laws.{OnePushMore, RowsAreThoseOfThePush, SpanIsOfThePushes, EachEdgeHasOneStatus}
use Rattle.tips_graph.specs.Laws.{KeptStepsAreHere, KeptShapesAreHere, RecommendedIsHereOrAwaited, RecommendedIsLongest}
use Rattle.tips_graph.specs.Table.{Says}
use Rattle.tips_graph.proofs.LongestLemmas.{IsLongest, longest_is, stride_shape, next_shape}
use Rattle.tips_graph.proofs.SpanLemmas.{IsStep, step_here}
use Rattle.tips_graph.proofs.StatusLemmas.{says_by, here_by, awaited_by}

-- one push more on the graph of pushes is the graph of one push more
pub one_push_more : OnePushMore
one_push_more = λ window before pushes push. grind (arith, common_steps)

-- where a number is kept, the first is the one after those that are forgotten
pub first_from : (window before : ℕ) (pushes : List Push) → 0 < last_of (graph_from window before pushes)
    → first_of (graph_from window before pushes) ≡ before + 1 + (length pushes - window)
first_from window before pushes some = grind (arith, nat_tests, length-drop (length pushes - window) pushes)

-- the last number is that of the last push
pub last_from : (window before : ℕ) (pushes : List Push) → 1 ≤ window → 0 < length pushes
    → last_of (graph_from window before pushes) ≡ before + length pushes
last_from window before pushes least some = grind (arith, nat_tests, length-drop (length pushes - window) pushes)

-- so it is where a number is kept
last_is_whole : (window before : ℕ) (pushes : List Push) → 0 < last_of (graph_from window before pushes)
    → last_of (graph_from window before pushes) ≡ before + length pushes
last_is_whole window before pushes some = grind (arith, nat_tests)

-- the first number that is kept, by the window and the last
pub first_of_window : (window : ℕ) (pushes : List Push) → 1 ≤ window → 0 < length pushes
    → first_of (graph_of window pushes) ≡ first_kept window (length pushes)
first_of_window window pushes least some =
    let last : last_of (graph_of window pushes) ≡ 0 + length pushes = last_from window 0 pushes least some in
    let first : first_of (graph_of window pushes) ≡ 0 + 1 + (length pushes - window) =
    first_from window 0 pushes (omega (arith, last, some)) in
    omega (arith, first, least)

-- a choice by a test that holds
chosen : {X : Type 0} (b : Bool) (found : Option X) → IsTrue b → (if b then found else None) ≡ found
chosen true found h = refl
chosen false found h = cc

-- a place past some items
slice_get-drop : (n k : ℕ) (pushes : List Push) → slice_get (drop n pushes) k ≡ slice_get pushes (n + k)
slice_get-drop zero k pushes = let e : k ≡ zero + k = omega arith in ap (slice_get pushes) e
slice_get-drop (suc n) k [] = refl
slice_get-drop (suc n) k (push ∷ pushes) =
    let e : suc n + k ≡ suc (n + k) = omega arith in
    rw e (slice_get-drop n k pushes)

-- a kept number is between the first and the last
kept_between : (graph : GraphData) (s : ℕ) → IsTrue (keeps graph s)
    → (0 < s) × ((first_of graph ≤ s) × (s ≤ last_of graph))
kept_between graph s kept = (grind (arith, nat_tests), (grind (arith, nat_tests), grind (arith, nat_tests)))

-- the rows at a kept number are those of its push
pub rows_of_the_push : RowsAreThoseOfThePush
rows_of_the_push = λ window before pushes s kept.
    let graph : GraphData = graph_from window before pushes in
    let between : (0 < s) × ((first_of graph ≤ s) × (s ≤ last_of graph)) = kept_between graph s kept in
    let first : first_of graph ≡ before + 1 + (length pushes - window) =
    first_from window before pushes (omega (arith, between)) in
    let place : length pushes - window + (s - first_of graph) ≡ s - before - 1 = omega (arith, first, between) in
    chosen (keeps graph s) _ kept
    ∙ ap (option_map (λ (push : Push). push.rows)) (slice_get-drop (length pushes - window) (s - first_of graph) pushes
    ∙ ap (slice_get pushes) place)

-- what a step that can be had says of its status and its start
step_is_here : (status : EdgeStatus) (i : ℕ) → IsTrue (is_step_here status i) → (status ≡ Here) × (i ≢ 0)
step_is_here Here i h = (refl, grind (arith, nat_tests))
step_is_here Absent i h = cc
step_is_here Gone i h = cc
step_is_here Awaited i h = cc
step_is_here Ahead i h = cc

-- the keys of an edge that can be had are those of the pushes between
pub span_of_the_pushes : SpanIsOfThePushes
span_of_the_pushes = λ window before pushes i j here.
    let graph : GraphData = graph_from window before pushes in
    let is : (status_of graph i j ≡ Here) × (i ≢ 0) = step_is_here (status_of graph i j) i here in
    let step : IsStep graph i j = step_here graph i j is.1 is.0 in
    let first : first_of graph ≡ before + 1 + (length pushes - window) =
    first_from window before pushes (omega (arith, step.to, step.shape.onward)) in
    let place : length pushes - window + (i + 1 - first_of graph) ≡ i - before = omega (arith, first, step.from) in
    chosen (is_step_here (status_of graph i j) i) _ here
    ∙ ap (λ (left : List Push). Some (key_set (flat_map (λ push. push.keys) (take (j - i) left))))
    (drop-drop (i + 1 - first_of graph) (length pushes - window) pushes ∙ ap (λ (n : ℕ). drop n pushes) place)

-- each edge has exactly one status
pub one_status : EachEdgeHasOneStatus
one_status = λ window before pushes i j status least some.
    let graph : GraphData = graph_from window before pushes in
    let last : last_of graph ≡ before + length pushes = last_from window before pushes least some in
    let first : first_of graph ≡ before + 1 + (length pushes - window) =
    first_from window before pushes (omega (arith, last, some)) in
    subst (λ (n : ℕ). (status_of graph i j ≡ status) ↔ Says (first_of graph) n i j status) last
    (says_by (first_of graph) (last_of graph) i j status (omega (arith, first, last, least, some))
    (omega (arith, last, some)))

-- the step from each kept number below the last can be had
pub kept_step_is_here : KeptStepsAreHere
kept_step_is_here = λ window before pushes s kept below. search rules

-- each edge between kept numbers can be had
pub kept_shape_is_here : KeptShapesAreHere
kept_shape_is_here = λ window before pushes i j from to shape.
    let graph : GraphData = graph_from window before pushes in
    let start : (0 < i) × ((first_of graph ≤ i) × (i ≤ last_of graph)) = kept_between graph i from in
    let end : (0 < j) × ((first_of graph ≤ j) × (j ≤ last_of graph)) = kept_between graph j to in
    (here_by (is_shape i j) (first_of graph) (last_of graph) i j).1 (
      shape,
      λ past. omega (arith, past, start),
      end.1.0,
      end.1.1,
    )

-- a choice by two tests
first_if : {X : Type 0} (b : Bool) (one two : X) → b ≡ true → (if b then one else two) ≡ one
first_if true one two h = refl
first_if false one two h = cc

-- and by one that fails
second_if : {X : Type 0} (b : Bool) (one two : X) → b ≡ false → (if b then one else two) ≡ two
second_if true one two h = cc
second_if false one two h = refl

-- an edge to the last number can be had from nothing
whole_here : (first last : ℕ) → first ≤ last → 0 < last → edge_status first last 0 last ≡ Here
whole_here first last order some =
    (here_by (is_shape 0 last) first last 0 last).1 (
      grind (arith, nat_tests),
      λ past. omega (arith, past),
      order,
      omega arith,
    )

-- the step after the last number is awaited
next_awaited : (first last : ℕ) → first ≤ last → 0 < last → edge_status first last last (last + 1) ≡ Awaited
next_awaited first last order some = (awaited_by (is_shape last (last + 1)) first last last (last + 1) order some).1
    (next_shape last some, (refl, refl))

-- the longest edge from a number below the last can be had
longest_here : (first last held : ℕ) → first ≤ held → 0 < held → held < last
    → edge_status first last held (held + longest_stride last held) ≡ Here
longest_here first last held from some below =
    let longest : IsLongest last held (longest_stride last held) = longest_is last held below in
    (here_by (is_shape held (held + longest_stride last held)) first last held (held + longest_stride last held)).1 (
      stride_shape held (longest_stride last held) some longest.stride longest.divides,
      λ past.
          omega (arith, past, from),
      omega arith,
      longest.within,
    )

-- which edge is recommended
recommended_onward : (first last held : ℕ) → first ≤ held → held < last
    → recommended_edge first last (Some held) ≡ (held, held + longest_stride last held)
recommended_onward first last held from below =
    first_if (nat_le first held && nat_lt held last) _ _ (grind (arith, nat_tests))

-- a recommended edge can be had, or comes next, where a version is held
held_is_had : (first last held : ℕ) (onward last_held : Bool) → 0 < first → first ≤ last
    → (nat_le first held && nat_lt held last) ≡ onward → (held == last) ≡ last_held
    → let edge = recommended_edge first last (Some held) in
    (edge_status first last edge.0 edge.1 ≡ Here) ⊎ (edge_status first last edge.0 edge.1 ≡ Awaited)
held_is_had first last held true last_held some order is is' =
    let from : first ≤ held = grind (arith, nat_tests) in
    let below : held < last = grind (arith, nat_tests) in
    subst (λ (edge : ℕ × ℕ). (edge_status first last edge.0 edge.1 ≡ Here)
    ⊎ (edge_status first last edge.0 edge.1 ≡ Awaited))
    (sym (recommended_onward first last held from below)) (inl (longest_here first last held from (omega arith) below))
held_is_had first last held false true some order is is' =
    let same : held ≡ last = grind (arith, nat_tests) in
    subst (λ (edge : ℕ × ℕ). (edge_status first last edge.0 edge.1 ≡ Here)
    ⊎ (edge_status first last edge.0 edge.1 ≡ Awaited))
    (sym (second_if (nat_le first held && nat_lt held last) _ _ is ∙ first_if (held == last) (held, held + 1) (0, last)
    is' ∙ ap (λ (n : ℕ). (n, n + 1)) same))
    (inr (next_awaited first last order (omega arith)))
held_is_had first last held false false some order is is' =
    subst (λ (edge : ℕ × ℕ). (edge_status first last edge.0 edge.1 ≡ Here)
    ⊎ (edge_status first last edge.0 edge.1 ≡ Awaited))
    (sym (second_if (nat_le first held && nat_lt held last) _ _ is
    ∙ second_if (held == last) (held, held + 1) (0, last) is'))
    (inl (whole_here first last order (omega arith)))

-- a recommended edge can be had, or is the step after the last number
pub recommended_is_had : RecommendedIsHereOrAwaited
recommended_is_had = λ window before pushes held least some.
    let graph : GraphData = graph_from window before pushes in
    let last : last_of graph ≡ before + length pushes = last_from window before pushes least some in
    let first : first_of graph ≡ before + 1 + (length pushes - window) =
    first_from window before pushes (omega (arith, last, some)) in
    by (first_of graph) (last_of graph) held (omega (arith, first)) (omega (arith, first, last, least, some))
  where
    by : (first last : ℕ) (held : Option ℕ) → 0 < first → first ≤ last
        → let edge = recommended_edge first last held in
        (edge_status first last edge.0 edge.1 ≡ Here) ⊎ (edge_status first last edge.0 edge.1 ≡ Awaited)
    by first last None some order = inl (whole_here first last order (omega arith))
    by first last (Some held) some order = held_is_had first last held (nat_le first held && nat_lt held last)
        (held == last) some order refl refl

-- none that can be had leads further than the recommended edge
pub recommended_longest : RecommendedIsLongest
recommended_longest = λ window before pushes held kept below.
    let graph : GraphData = graph_from window before pushes in
    let between : (0 < held) × ((first_of graph ≤ held) × (held ≤ last_of graph)) = kept_between graph held kept in
    let last : last_of graph ≡ before + length pushes = last_is_whole window before pushes (omega (arith, between)) in
    let below' : held < last_of graph = omega (arith, last, below) in
    let longest : IsLongest (last_of graph) held (longest_stride (last_of graph) held) =
    longest_is (last_of graph) held below' in
    subst (λ (edge : ℕ × ℕ). (edge.0 ≡ held) × (status_of graph held edge.1 ≡ Here) × ((j : ℕ)
    → status_of graph held j ≡ Here → j ≤ edge.1))
    (sym (recommended_onward (first_of graph) (last_of graph) held between.1.0 below')) (
      refl,
      longest_here (first_of graph) (last_of graph) held between.1.0 between.0 below',
      λ (j : ℕ) here.
          let edge : IsStep graph held j = step_here graph held j (omega (arith, between)) here in
          longest.longest j edge.shape edge.to,
    )
