-- A push and a cut keep what holds of every graph.
use Rattle.std.proofs.Common.{◌≡◌, ℕ, zero, suc, ◌+◌, ◌-◌, ◌^◌, ◌<◌, ◌≤◌, length, drop, map, get_or, refl, ap, sym}
use Rattle.std.proofs.Common.{subst, ◌∙◌, arith, length-append, length-drop}
use Rattle.std.proofs.Math.ListN.{get_or-append}
use Rattle.std.proofs.Math.Seq.{get_or-append_seam}
use Rattle.std.proofs.lemmas.Bool.Decides.{nat_tests}
use Rattle.std.proofs.lemmas.List.{drop-append-le, drop-drop, get_or-drop, map-append, length-map}
use Rattle.std.proofs.lemmas.Grind.{common_steps}
use Rattle.std.specs.Prelude.{Bool, true, false, nat_lt, List, [], ◌∷◌, ◌++◌}
use Rattle.std.specs.List.{drop-map}
use Rattle.alto_rows.specs.Rows.{Rows}
use Rattle.alto_rows.specs.declared.key.Key.{Key}
use Rattle.tips_graph.specs.Graph.{GraphData, Push, AreSets, with_push, cut_at, first_of}
use Rattle.tips_graph.specs.Keys.{key_set}
use Rattle.tips_graph.specs.Shortcuts.{StepData, push_of, HasLists, HaveLists, before_kept, graph_with, Stands}
use Rattle.tips_graph.specs.Sound.{IsSound}
use Rattle.tips_graph.proofs.ShortcutLemmas.{list_more, list_fewer, stride_positive}

-- pushes whose keys are sets, and one more
sets_more : (pushes : List Push) (push : Push) → AreSets pushes → key_set push.keys ≡ push.keys
    → AreSets (pushes ++ push ∷ [])
sets_more pushes push sets set = grind (arith, common_steps, sets)

-- the last of pushes whose keys are sets
sets_last : (n : ℕ) (pushes : List Push) → AreSets pushes → AreSets (drop n pushes)
sets_last n pushes sets = λ k d within. rw (get_or-drop n pushes k d)
    (sets (n + k) d (omega (arith, within, length-drop n pushes)))

-- such pushes with another first
sets_first : (push : Push) (pushes : List Push) → key_set push.keys ≡ push.keys → AreSets pushes
    → AreSets (push ∷ pushes)
sets_first push pushes set sets = by
  where
    by : AreSets (push ∷ pushes)
    by zero d within = set
    by (suc k) d within = sets k d (omega arith)

-- a graph stays sound under a push
pub sound_push : (graph : GraphData) (push : Push) → IsSound graph → graph.last < 2 ^ 63 - 1
    → key_set push.keys ≡ push.keys → IsSound (with_push graph push)
sound_push graph push sound room set = record {
  at_least = sound.at_least;
  at_most = sound.at_most;
  small = omega arith;
  within = omega (arith, length-drop (length (graph.kept ++ push ∷ []) - graph.window) (graph.kept ++ push ∷ []));
  numbered = omega (
    arith,
    sound.numbered,
    length-append graph.kept (push ∷ []),
    length-drop (length (graph.kept ++ push ∷ []) - graph.window) (graph.kept ++ push ∷ []),
  );
  sets = sets_last (length (graph.kept ++ push ∷ []) - graph.window) (graph.kept ++ push ∷ [])
      (sets_more graph.kept push sound.sets set);
}

-- ---- steps that have the lists of their edges

-- one more
lists_more : (before : ℕ) (steps : List StepData) (step : StepData) → HaveLists before steps
    → HasLists before (map push_of steps ++ push_of step ∷ []) (before + length steps + 1) step
    → HaveLists before (steps ++ step ∷ [])
lists_more before steps step lists next = λ k d within. rw (map-append push_of steps (step ∷ []))
    (by (nat_lt k (length steps)) k d within refl)
  where
    by : (b : Bool) (k : ℕ) (d : StepData) → k < length (steps ++ step ∷ []) → nat_lt k (length steps) ≡ b
        → HasLists before (map push_of steps ++ push_of step ∷ []) (before + k + 1) (get_or (steps ++ step ∷ []) k d)
    by true k d within earlier =
        let place : k < length steps = grind (arith, nat_tests) in
        subst (λ (this : StepData). HasLists before (map push_of steps ++ push_of step ∷ []) (before + k + 1) this)
        (sym (get_or-append steps (step ∷ []) d k place))
        (λ stride is keys kept. list_more before (map push_of steps) (push_of step ∷ []) (before + k + 1) stride keys
        (omega (arith, place, length-map steps push_of)) (lists k d place stride is keys kept))
    by false k d within late =
        let place : length steps ≡ k = grind (arith, nat_tests, length-append steps (step ∷ [])) in
        subst (λ (n : ℕ). HasLists before (map push_of steps ++ push_of step ∷ []) (before + n + 1)
        (get_or (steps ++ step ∷ []) n d)) place
        (subst (λ (this : StepData). HasLists before (map push_of steps ++ push_of step ∷ [])
        (before + length steps + 1) this) (sym (get_or-append_seam steps step [] d)) next)

-- without the first
lists_fewer : (before n : ℕ) (steps : List StepData) → HaveLists before steps → HaveLists (before + n) (drop n steps)
lists_fewer before n steps lists = λ k d within.
    let place : n + k < length steps = omega (arith, within, length-drop n steps) in
    let number : before + (n + k) + 1 ≡ before + n + k + 1 = omega arith in
    rw (get_or-drop n steps k d)
    (λ stride is keys kept. list_fewer before n (map push_of steps) (map push_of (drop n steps)) (before + n + k + 1)
    stride keys
    (ap (drop 1) (sym (drop-map push_of n steps)) ∙ drop-drop 1 n (map push_of steps))
    (subst (λ (m : ℕ). HasLists before (map push_of steps) m (get_or steps (n + k) d)) number (lists (n + k) d place)
    stride is keys kept))

-- without the first, and with another at the first that is left
lists_cut : (before n : ℕ) (steps : List StepData) (first : StepData) → HaveLists before steps
    → HaveLists (before + n) (first ∷ drop (n + 1) steps)
lists_cut before n steps first lists = by
  where
    by : HaveLists (before + n) (first ∷ drop (n + 1) steps)
    by zero d within = λ stride is keys kept divides from. absurd (omega (arith, from, stride_positive stride is))
    by (suc k) d within =
        let place : n + 1 + k < length steps = omega (arith, within, length-drop (n + 1) steps) in
        let number : before + (n + 1 + k) + 1 ≡ before + n + suc k + 1 = omega arith in
        rw (get_or-drop (n + 1) steps k d)
        (λ stride is keys kept. list_fewer before n (map push_of steps)
        (push_of first ∷ map push_of (drop (n + 1) steps)) (before + n + suc k + 1) stride keys
        (sym (drop-map push_of (n + 1) steps))
        (subst (λ (m : ℕ). HasLists before (map push_of steps) m (get_or steps (n + 1 + k) d)) number
        (lists (n + 1 + k) d place) stride is keys kept))

-- ---- a push

-- a push of these rows and keys
abbrev pub made : Rows → List Key → Push
made rows keys = record { rows = rows; keys = keys }

-- what is kept after a push, from the copies that were made
pub kept_after : {X : Type 0} (value : X → StepData) (old none copies new : List X) (added : X) (n : ℕ) → none ≡ []
    → map value copies ≡ map value none ++ map value (drop n old)
    → new ≡ copies ++ added ∷ [] → map value new ≡ drop n (map value old) ++ value added ∷ []
kept_after value old none copies new added n empty shared more =
    ap (map value) more ∙ map-append value copies (added ∷ [])
    ∙ ap (λ (front : List StepData). front ++ value added ∷ [])
    (shared ∙ ap (λ start. map value start ++ map value (drop n old)) empty ∙ sym (drop-map value n old))

-- the graph of the steps after a push
pub pushed_graph : (window last : ℕ) (steps : List StepData) (step : StepData) (n : ℕ) (new : List StepData)
    → 2 ≤ window → n ≡ length steps + 1 - window
    → new ≡ drop n steps ++ step ∷ []
    → graph_with window (last + 1) new ≡ with_push (graph_with window last steps) (push_of step)
pushed_graph window last steps step n new least forgotten is =
    let within : n ≤ length (map push_of steps) = omega (arith, forgotten, least, length-map steps push_of) in
    let count : n ≡ length (map push_of steps ++ push_of step ∷ []) - window =
    omega (arith, forgotten, length-map steps push_of, length-append (map push_of steps) (push_of step ∷ [])) in
    ap (λ (kept : List Push). record { window = window; last = last + 1; kept = kept })
    (ap (map push_of) is ∙ map-append push_of (drop n steps) (step ∷ [])
    ∙ ap (λ (front : List Push). front ++ push_of step ∷ []) (sym (drop-map push_of n steps))
    ∙ sym (drop-append-le n (map push_of steps) (push_of step ∷ []) within)
    ∙ ap (λ (k : ℕ). drop k (map push_of steps ++ push_of step ∷ [])) count)

-- the steps after a push stand
pub pushed_stand : (window last : ℕ) (steps : List StepData) (step : StepData) (n : ℕ) (new : List StepData)
    → Stands window last steps → last < 2 ^ 63 - 1
    → n ≡ length steps + 1 - window → new ≡ drop n steps ++ step ∷ [] → key_set step.keys ≡ step.keys
    → HasLists (before_kept (graph_with window last steps)) (map push_of steps ++ push_of step ∷ []) (last + 1) step
    → Stands window (last + 1) new
pushed_stand window last steps step n new stands room forgotten is set next =
    let count : length (map push_of steps) ≡ length steps = length-map steps push_of in
    let least : 2 ≤ window = stands.sound.at_least in
    let within : n ≤ length steps = omega (arith, forgotten, least) in
    let all : List StepData = steps ++ step ∷ [] in
    let whole : new ≡ drop n all = is ∙ sym (drop-append-le n steps (step ∷ []) within) in
    let number : last + 1 ≡ last - length steps + length steps + 1 = omega (arith, count, stands.sound.numbered) in
    let more : HaveLists (last - length steps) all = lists_more (last - length steps) steps step stands.lists
    (subst (λ (m : ℕ). HasLists (last - length steps) (map push_of steps ++ push_of step ∷ []) m step) number
    (subst (λ (m : ℕ). HasLists (last - m) (map push_of steps ++ push_of step ∷ []) (last + 1) step) count next)) in
    let before : last - length steps + n ≡ last + 1 - length new =
    omega (
      arith,
      within,
      count,
      stands.sound.numbered,
      ap length whole,
      length-drop n all,
      length-append steps (step ∷ []),
    ) in
    record {
      sound = subst IsSound (sym (pushed_graph window last steps step n new least forgotten is))
          (sound_push (graph_with window last steps) (push_of step) stands.sound room set);
      lists = subst (λ (m : ℕ). HaveLists m new)
          before (subst (λ (these : List StepData). HaveLists (last - length steps + n) these) (sym whole)
          (lists_fewer (last - length steps) n all more));
    }

-- ---- a cut

-- what is kept after a cut, from the copies that were made
pub kept_cut : {X : Type 0} (value : X → StepData) (old none begun new : List X) (added : X) (n : ℕ) → none ≡ []
    → begun ≡ none ++ added ∷ []
    → map value new ≡ map value begun ++ map value (drop n old) → map value new ≡ value added ∷ drop n (map value old)
kept_cut value old none begun new added n empty first shared =
    shared ∙ ap (λ start. map value start ++ map value (drop n old)) (first ∙ ap (λ start. start ++ added ∷ []) empty)
    ∙ ap (λ (left : List StepData). value added ∷ left) (sym (drop-map value n old))

-- the graph of the steps after a cut
pub cut_graph : (window last : ℕ) (steps : List StepData) (step : StepData) (number : ℕ) (rows : Rows) (n : ℕ)
    (new : List StepData) (graph : GraphData)
    → graph_with window last steps ≡ graph → first_of graph ≤ number → n ≡ number - first_of graph
    → push_of step ≡ record { rows = rows; keys = [] } → new ≡ step ∷ drop (n + 1) steps
    → graph_with window last new ≡ cut_at graph number rows
cut_graph window last steps step number rows n new graph is = subst
    (λ (graph : GraphData). first_of graph ≤ number → n ≡ number - first_of graph
    → push_of step ≡ record { rows = rows; keys = [] } → new ≡ step ∷ drop (n + 1) steps
    → graph_with window last new ≡ cut_at graph number rows) is
    (λ from place first made.
    let count : n + 1 ≡ number + 1 - first_of (graph_with window last steps) = omega (arith, place, from) in
    ap (graph_with window last) made
    ∙ ap (λ (push : Push). record { window = window; last = last; kept = push ∷ map push_of (drop (n + 1) steps) })
    first
    ∙ ap (λ (left : List Push). record {
      window = window;
      last = last;
      kept = record { rows = rows; keys = [] } ∷ left;
    })
    (sym (drop-map push_of (n + 1) steps) ∙ ap (λ (k : ℕ). drop k (map push_of steps)) count))

-- the steps after a cut stand
pub cut_stand : (window last : ℕ) (steps : List StepData) (step : StepData) (n : ℕ) (new : List StepData)
    → Stands window last steps → n < length steps → step.keys ≡ []
    → new ≡ step ∷ drop (n + 1) steps → Stands window last new
cut_stand window last steps step n new stands within none is = subst (Stands window last) (sym is)
    (let count : length (map push_of steps) ≡ length steps = length-map steps push_of in
    let left : List StepData = step ∷ drop (n + 1) steps in
    let many : length left + n ≡ length steps = omega (arith, within, length-drop (n + 1) steps) in
    let shown : length (map push_of left) ≡ length left = length-map left push_of in
    let set : key_set step.keys ≡ step.keys = ap key_set none ∙ sym none in
    let before : last - length steps + n ≡ last - length left = omega (arith, many, count, stands.sound.numbered) in
    record {
      sound = record {
        at_least = stands.sound.at_least;
        at_most = stands.sound.at_most;
        small = stands.sound.small;
        within = omega (arith, shown, many, count, stands.sound.within);
        numbered = omega (arith, shown, many, count, stands.sound.numbered);
        sets = sets_first (push_of step) (map push_of (drop (n + 1) steps)) set
            (subst AreSets (drop-map push_of (n + 1) steps) (sets_last (n + 1) (map push_of steps) stands.sound.sets));
      };
      lists = subst (λ (m : ℕ). HaveLists m left) before (lists_cut (last - length steps) n steps step stands.lists);
    })
