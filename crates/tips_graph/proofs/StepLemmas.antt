-- The steps that a graph keeps, by their numbers: each has the lists of its edges, and so has the next.
use Rattle.std.proofs.Common.{◌≡◌, ◌≢◌, ℕ, zero, suc, ◌+◌, ◌-◌, ◌*◌, ◌%◌, ◌<◌, ◌≤◌, length, take, drop, map, get_or}
use Rattle.std.proofs.Common.{refl, ap, sym, subst, ◌∙◌, arith, append-nil}
use Rattle.std.proofs.Math.ListN.{get_or-map}
use Rattle.std.proofs.Math.Seq.{drop-append_seam}
use Rattle.std.proofs.lemmas.Bool.Decides.{nat_tests}
use Rattle.std.proofs.lemmas.List.{length-map}
use Rattle.std.proofs.lemmas.Option.{same_Some}
use Rattle.std.specs.Prelude.{Bool, true, false, List, [], ◌∷◌, ◌++◌, Option, Some, None, slice_get, if◌then◌else◌}
use Rattle.std.specs.Prelude.{IsTrue}
use Rattle.alto_rows.specs.declared.key.Key.{Key}
use Rattle.tips_graph.specs.Graph.{GraphData, Push, first_of, last_of, keeps}
use Rattle.tips_graph.specs.Keys.{key_set}
use Rattle.tips_graph.specs.Shortcuts.{StepData, push_of, list_of, IsStride, IsListOfEdge, IsListIfKept, HasLists}
use Rattle.tips_graph.specs.Shortcuts.{before_kept, graph_with, Stands}
use Rattle.tips_graph.proofs.KeySetLemmas.{key_set-key_set}
use Rattle.tips_graph.proofs.ShortcutLemmas.{at_strides, keys_of, halves, list_more, list_doubled}

-- ---- a kept number

-- where a number is kept
pub record IsKeptAt (graph : GraphData) (number : ℕ) : Type 0 where
  pub first : first_of graph + length graph.kept ≡ graph.last + 1
  pub from : first_of graph ≤ number
  pub to : number ≤ graph.last
  pub some : 0 < number

-- a graph keeps a number there
pub kept_at : (graph : GraphData) (number : ℕ) → length graph.kept ≤ graph.last → IsTrue (keeps graph number)
    → IsKeptAt graph number
kept_at graph number numbered kept =
    record {
      first = grind (arith, nat_tests);
      from = grind (arith, nat_tests);
      to = grind (arith, nat_tests);
      some = grind (arith, nat_tests);
    }

-- a graph has as many pushes as steps
pub steps_length : (window last : ℕ) (steps : List StepData) (graph : GraphData) → graph_with window last steps ≡ graph
    → length steps ≡ length graph.kept
steps_length window last steps graph is = sym (length-map steps push_of)
    ∙ ap (λ (graph : GraphData). length graph.kept) is

-- the step in an item at a place
pub step_in : {X : Type 0} (value : X → StepData) (items seen : List X) (k place : ℕ) (item : X) (step : StepData)
    → step ≡ value item → item ≡ get_or seen k item → seen ≡ items → k ≡ place
    → step ≡ get_or (map value items) place step
step_in value items seen k place item step is at same here =
    is ∙ ap value at ∙ sym (get_or-map value seen k item) ∙ ap (λ (d : StepData). get_or (map value seen) k d) (sym is)
    ∙ ap (λ items. get_or (map value items) k step) same ∙ ap (λ (n : ℕ). get_or (map value items) n step) here

-- the push at a place
push_at : (steps : List StepData) (k : ℕ) (step : StepData) → k < length steps → step ≡ get_or steps k step
    → slice_get (map push_of steps) k ≡ Some (push_of step)
push_at [] k step within is = absurd (omega arith)
push_at (first ∷ steps) zero step within is = ap (λ (step : StepData). Some (push_of step)) (sym is)
push_at (first ∷ steps) (suc k) step within is = push_at steps k step (omega arith) is

-- lists by other names of the same numbers
lists_at : (before before' : ℕ) (pushes : List Push) (number number' : ℕ) (step step' : StepData) → before ≡ before'
    → number ≡ number' → step ≡ step'
    → HasLists before pushes number step → HasLists before' pushes number' step'
lists_at before before' pushes number number' step step' one two three lists =
    subst (λ (n : ℕ). HasLists n pushes number' step') one
    (subst (λ (n : ℕ). HasLists before pushes n step')
    two (subst (λ (s : StepData). HasLists before pushes number s) three lists))

-- a choice by a test that holds
chosen : (b : Bool) (found : Option Push) → b ≡ true → (if b then found else None) ≡ found
chosen true found h = refl
chosen false found h = cc

-- the step to a kept number
pub record IsStepTo (graph : GraphData) (number : ℕ) (step : StepData) : Type 0 where
  pub push : Some (push_of step) ≡ (if keeps graph number then slice_get graph.kept (number - first_of graph) else None)
  pub lists : HasLists (before_kept graph) graph.kept number step

-- the step at the place of a number that is kept
pub step_at : (window last : ℕ) (steps : List StepData) (number : ℕ) (step : StepData) (graph : GraphData)
    → graph_with window last steps ≡ graph → Stands window last steps
    → number ≢ 0 → first_of graph ≤ number → number ≤ last_of graph → step ≡ get_or steps (number - first_of graph) step
    → IsStepTo graph number step
step_at window last steps number step graph is stands some = subst
    (λ (graph : GraphData). first_of graph ≤ number → number ≤ last_of graph
    → step ≡ get_or steps (number - first_of graph) step → IsStepTo graph number step) is
    (λ from to at.
    let this : GraphData = graph_with window last steps in
    let kept : keeps this number ≡ true = grind (arith, nat_tests) in
    let place : IsKeptAt this number = kept_at this number stands.sound.numbered kept in
    let count : length (map push_of steps) ≡ length steps = length-map steps push_of in
    let within : number - first_of this < length steps = omega (arith, place.first, place.to, place.from, count) in
    record {
      push = sym (chosen (keeps this number) _ kept ∙ push_at steps (number - first_of this) step within at);
      lists = lists_at (last - length steps) (before_kept this) (map push_of steps)
          (last - length steps + (number - first_of this) + 1) number (get_or steps (number - first_of this) step) step
          (ap (λ (n : ℕ). last - n) (sym count))
          (omega (arith, place.first, place.to, place.from, count, stands.sound.numbered)) (sym at)
          (stands.lists (number - first_of this) step within);
    })

-- ---- the next step

-- what is a set of keys is one
pub set_again : (keys others : List Key) → keys ≡ key_set others → key_set keys ≡ keys
set_again keys others is = ap key_set is ∙ key_set-key_set others ∙ sym is

-- the list of an edge to the next number, doubled by the list of its first half
pub record Doubles (graph : GraphData) (half : ℕ) (older : List Key) : Type 0 where
  pub older_set : key_set older ≡ older
  pub newer_set : (push : Push) (newer : List Key)
      → IsListOfEdge (before_kept graph) (graph.kept ++ push ∷ []) (graph.last + 1) half newer → key_set newer ≡ newer
  pub both : (push : Push) (newer keys : List Key)
      → IsListOfEdge (before_kept graph) (graph.kept ++ push ∷ []) (graph.last + 1) half newer
      → keys ≡ key_set (older ++ newer)
      → IsListOfEdge (before_kept graph) (graph.kept ++ push ∷ []) (graph.last + 1) (2 * half) keys

-- what is kept at the middle of an edge to the next number is the list of its first half
older_list : (window last : ℕ) (steps : List StepData) (half : ℕ) (step : StepData) (older : List Key)
    → Stands window last steps → IsStride half → 2 * half ≤ length steps → 0 < half
    → step ≡ get_or steps (length steps - half) step → Some older ≡ list_of step half
    → IsListOfEdge (before_kept (graph_with window last steps)) (map push_of steps) (last + 1 - half) half older
older_list window last steps half step older stands stride room some at kept =
    let count : length (map push_of steps) ≡ length steps = length-map steps push_of in
    lists_at (last - length steps) (before_kept (graph_with window last steps)) (map push_of steps)
    (last - length steps + (length steps - half) + 1) (last + 1 - half)
    (get_or steps (length steps - half) step) step (ap (λ (n : ℕ). last - n) (sym count))
    (omega (arith, count, stands.sound.numbered, room)) (sym at)
    (stands.lists (length steps - half) step (omega (arith, room, some))) half stride older (sym kept)

-- where the next number ends an edge from a kept number, its list is made of two
pub doubles : (window last : ℕ) (steps : List StepData) (graph : GraphData) (half : ℕ) (step : StepData)
    (older : List Key) → graph_with window last steps ≡ graph → Stands window last steps
    → IsStride half → 0 < half → (last + 1) % (2 * half) ≡ 0 → 2 * half ≤ length steps
    → step ≡ get_or steps (length steps - half) step → Some older ≡ list_of step half → Doubles graph half older
doubles window last steps graph half step older is stands stride some divides room at kept =
    subst (λ (graph : GraphData). Doubles graph half older) is
    (let this : GraphData = graph_with window last steps in
    let count : length (map push_of steps) ≡ length steps = length-map steps push_of in
    let numbered : length (map push_of steps) ≤ last = stands.sound.numbered in
    let both : ((last + 1) % half ≡ 0) × ((last + 1 - half) % half ≡ 0) =
    halves half stride (last + 1) divides (omega (arith, room, count, numbered)) in
    let first : IsListOfEdge (before_kept this) (map push_of steps) (last + 1 - half) half older =
    older_list window last steps half step older stands stride room some at kept in
    record {
      older_set =
          set_again older (keys_of (take half (drop (last + 1 - half - half - before_kept this) (map push_of steps))))
          (first both.1 (omega (arith, room, count, numbered)));
      newer_set = λ (push : Push) (newer : List Key) second. set_again
          newer (keys_of (take half (drop (last + 1 - half - before_kept this) (map push_of steps ++ push ∷ []))))
          (second both.0 (omega (arith, room, count, numbered)));
      both = λ (push : Push) (newer keys : List Key) second made.
          list_doubled (before_kept this) (map push_of steps ++ push ∷ []) (last + 1) half older newer keys stride
          (list_more (before_kept this) (map push_of steps) (push ∷ []) (last + 1 - half) half older
          (omega (arith, room, count, numbered, some)) first)
          second (λ _ _. made);
    })

-- the list of the step to the next number
pub list_one : (before : ℕ) (pushes : List Push) (push : Push) (number : ℕ) → number ≡ before + length pushes + 1
    → key_set push.keys ≡ push.keys
    → IsListOfEdge before (pushes ++ push ∷ []) number 1 push.keys
list_one before pushes push number is set = λ divides from.
    let place : number - 1 - before ≡ length pushes = omega (arith, is) in
    sym (ap (λ (k : ℕ). key_set (keys_of (take 1 (drop k (pushes ++ push ∷ []))))) place
    ∙ ap (λ (left : List Push). key_set (keys_of (take 1 left))) (drop-append_seam pushes (push ∷ []))
    ∙ ap key_set (append-nil push.keys) ∙ set)

-- a list that is kept for sure
pub list_kept : (before : ℕ) (pushes : List Push) (number stride : ℕ) (keys : List Key)
    → IsListOfEdge before pushes number stride keys → IsListIfKept before pushes number stride (Some keys)
list_kept before pushes number stride keys is =
    λ list same. subst (IsListOfEdge before pushes number stride) (same_Some keys list same) is

-- a step that keeps lists of its edges
pub all_lists : (before : ℕ) (pushes : List Push) (number : ℕ) (step : StepData)
    → IsListOfEdge before pushes number 1 step.keys
    → IsListIfKept before pushes number 2 step.twos → IsListIfKept before pushes number 4 step.fours
    → IsListIfKept before pushes number 8 step.eights → IsListIfKept before pushes number 16 step.sixteens
    → HasLists before pushes number step
all_lists before pushes number step one =
    at_strides (λ stride. IsListIfKept before pushes number stride (list_of step stride))
    (list_kept before pushes number 1 step.keys one)
