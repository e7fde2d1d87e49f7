-- What a graph keeps under a push: the rows at its numbers, and the keys of its edges.
use Rattle.std.proofs.Common.{◌≡◌, ℕ, zero, suc, ◌+◌, ◌-◌, ◌<◌, ◌≤◌, length, take, drop, get_or, refl, ap, sym, subst}
use Rattle.std.proofs.Common.{◌∙◌, arith}
use Rattle.std.proofs.Common.{length-append, length-drop}
use Rattle.std.proofs.lemmas.Bool.Decides.{nat_tests}
use Rattle.std.proofs.lemmas.List.{drop-append-le, take-append-le}
use Rattle.std.proofs.lemmas.Option.{slice_get-get_or, slice_get_within}
use Rattle.std.specs.Prelude.{Bool, true, false, List, [], ◌∷◌, ◌++◌, All, Option, Some, None, option_map, slice_get}
use Rattle.std.specs.Prelude.{if◌then◌else◌, IsTrue}
use Rattle.std.specs.List.{flat_map}
use Rattle.std.specs.List.Sorted.{IsStrictlySortedBy}
use Rattle.alto_rows.specs.declared.key.Key.{Key}
use Rattle.alto_rows.specs.Good.{AreGood}
use Rattle.alto_rows.specs.Order.{key_cmp}
use Rattle.alto_rows.specs.Rows.{Rows}
use Rattle.tips_graph.specs.Graph.{GraphData, Push, first_of, graph_from, is_step_here, keeps, last_of, pushes_between}
use Rattle.tips_graph.specs.Graph.{rows_at, span_of, status_of, with_push}
use Rattle.tips_graph.specs.Edges.{is_shape}
use Rattle.tips_graph.specs.Keys.{key_set}
use Rattle.tips_graph.specs.Shortcuts.{before_kept}
use Rattle.tips_graph.specs.Sound.{IsSound}
use Rattle.tips_graph.specs.declared.status.EdgeStatus.{EdgeStatus}
use Rattle.tips_graph.specs.declared.status.EdgeStatus.TheVariants.{Absent, Gone, Awaited, Ahead, Here}
use Rattle.tips_graph.proofs.GraphLaws.{first_from, last_from, one_push_more, rows_of_the_push, span_of_the_pushes}
use Rattle.tips_graph.proofs.KeySetLemmas.{key_set_sorted}
use Rattle.tips_graph.proofs.SpanLemmas.{step_here}
use Rattle.tips_graph.proofs.StatusLemmas.{here_by}

-- a sound graph is that of the pushes that it keeps
pub graph_is : (graph : GraphData) → IsSound graph → graph_from graph.window (before_kept graph) graph.kept ≡ graph
graph_is graph sound =
    let none : length graph.kept - graph.window ≡ 0 = omega (arith, sound.within) in
    let last : graph.last - length graph.kept + length graph.kept ≡ graph.last = omega (arith, sound.numbered) in
    ap (λ (n : ℕ). record {
      window = graph.window;
      last = n;
      kept = drop (length graph.kept - graph.window)
          graph.kept;
    }) last
    ∙ ap (λ (n : ℕ). record { window = graph.window; last = graph.last; kept = drop n graph.kept }) none

-- with a push more that of one push more
pub pushed_is : (graph : GraphData) (push : Push) → IsSound graph
    → with_push graph push ≡ graph_from graph.window (before_kept graph) (graph.kept ++ push ∷ [])
pushed_is graph push sound =
    ap (λ (g : GraphData). with_push g push) (sym (graph_is graph sound))
    ∙ one_push_more graph.window (before_kept graph) graph.kept push

-- what a choice by a test gives is given where the test holds
test_of : {X : Type 0} (b : Bool) (found : Option X) (x : X) → (if b then found else None) ≡ Some x
    → (b ≡ true) × (found ≡ Some x)
test_of true found x is = (refl, is)
test_of false found x is = cc

some_of : (found : Option Push) (rows : Rows) → option_map (λ push. push.rows) found ≡ Some rows
    → (push : Push) × (found ≡ Some push) × (push.rows ≡ rows)
some_of (Some push) rows is = (push, refl, cc)
some_of None rows is = cc

-- where a number is kept
kept_between : (graph : GraphData) (number : ℕ) → keeps graph number ≡ true
    → (0 < number) × ((first_of graph ≤ number) × (number ≤ last_of graph))
kept_between graph number kept = (grind (arith, nat_tests), (grind (arith, nat_tests), grind (arith, nat_tests)))

-- ---- rows

-- rows that a graph keeps are good, where those of its pushes are
pub kept_good : (graph : GraphData) (number : ℕ) (rows : Rows) → All (λ (push : Push). AreGood push.rows) graph.kept
    → rows_at graph number ≡ Some rows → AreGood rows
kept_good graph number rows good is =
    let kept = test_of (keeps graph number) _ rows is in
    let found = some_of (slice_get graph.kept (number - first_of graph)) rows kept.1 in
    let within = slice_get_within graph.kept (number - first_of graph) found.0 found.1 in
    let at : get_or graph.kept (number - first_of graph) found.0 ≡ found.0 =
    some_is (sym (slice_get-get_or graph.kept (number - first_of graph) found.0 within) ∙ found.1) in
    subst AreGood found.2 (subst (λ (push : Push). AreGood push.rows)
    at (good (number - first_of graph) found.0 within))
  where
    some_is : {a b : Push} → Some a ≡ Some b → a ≡ b
    some_is h = cc

-- an element before the end is one of the front
slice_get-front : {X : Type 0} (xs ys : List X) (k : ℕ) → k < length xs → slice_get (xs ++ ys) k ≡ slice_get xs k
slice_get-front [] ys k within = absurd (omega arith)
slice_get-front (x ∷ xs) ys zero within = refl
slice_get-front (x ∷ xs) ys (suc k) within = slice_get-front xs ys k (omega arith)

-- the element at the end of the front is the first of what follows
slice_get-seam : {X : Type 0} (xs : List X) (y : X) → slice_get (xs ++ y ∷ []) (length xs) ≡ Some y
slice_get-seam [] y = refl
slice_get-seam (x ∷ xs) y = slice_get-seam xs y

-- where the numbers of a graph with a push more lie
record IsPushed (graph : GraphData) (push : Push) : Type 0 where
  pub last : last_of (graph_from graph.window (before_kept graph) (graph.kept ++ push ∷ [])) ≡ graph.last + 1
  pub first : first_of (graph_from graph.window (before_kept graph) (graph.kept ++ push ∷ []))
      ≡ before_kept graph + 1 + (length graph.kept + 1 - graph.window)
  pub before : before_kept graph + length graph.kept ≡ graph.last

pushed_at : (graph : GraphData) (push : Push) → IsSound graph → IsPushed graph push
pushed_at graph push sound =
    let ps : List Push = graph.kept ++ push ∷ [] in
    let count : length ps ≡ length graph.kept + 1 = length-append graph.kept (push ∷ []) in
    let last = last_from graph.window (before_kept graph) ps (omega (arith, sound.at_least)) (omega (arith, count)) in
    record {
      last = omega (arith, last, count, sound.numbered);
      first = omega (arith, first_from graph.window (before_kept graph) ps (omega (arith, last, count)), count);
      before = omega (arith, sound.numbered);
    }

-- a graph that keeps a push at least
record IsSome (graph : GraphData) : Type 0 where
  pub last : last_of (graph_from graph.window (before_kept graph) graph.kept) ≡ graph.last
  pub first : first_of (graph_from graph.window (before_kept graph) graph.kept) ≡ before_kept graph + 1

some_at : (graph : GraphData) → IsSound graph → 0 < length graph.kept → IsSome graph
some_at graph sound some =
    let last = last_from graph.window (before_kept graph) graph.kept (omega (arith, sound.at_least)) some in
    record {
      last = omega (arith, last, sound.numbered);
      first = omega (
        arith,
        first_from graph.window (before_kept graph) graph.kept (omega (arith, last, some)),
        sound.within,
      );
    }

is_kept : (graph : GraphData) (number : ℕ) → 0 < number → first_of graph ≤ number → number ≤ last_of graph
    → IsTrue (keeps graph number)
is_kept graph number some from to = grind (arith, nat_tests)

-- the rows of a push are those at its number
pub rows_newest : (graph : GraphData) (push : Push) → IsSound graph
    → rows_at (with_push graph push) (graph.last + 1) ≡ Some push.rows
rows_newest graph push sound =
    let ps : List Push = graph.kept ++ push ∷ [] in
    let from : GraphData = graph_from graph.window (before_kept graph) ps in
    let at = pushed_at graph push sound in
    let place : graph.last + 1 - before_kept graph - 1 ≡ length graph.kept = omega (arith, at.before) in
    ap (λ (g : GraphData). rows_at g (graph.last + 1)) (pushed_is graph push sound)
    ∙ (rows_of_the_push graph.window (before_kept graph) ps (graph.last + 1)
    (is_kept from (graph.last + 1) (omega arith) (omega (arith, at.first, at.before, sound.within, sound.at_least))
    (omega (arith, at.last)))
    ∙ ap (option_map (λ (push : Push). push.rows)) (ap (slice_get ps) place ∙ slice_get-seam graph.kept push))

-- rows that a graph keeps under a push are those that it had
pub rows_still : (graph : GraphData) (push : Push) (number : ℕ) (rows : Rows) → IsSound graph → number ≤ graph.last
    → rows_at (with_push graph push) number ≡ Some rows → rows_at graph number ≡ Some rows
rows_still graph push number rows sound reached is =
    let ps : List Push = graph.kept ++ push ∷ [] in
    let later : GraphData = graph_from graph.window (before_kept graph) ps in
    let earlier : GraphData = graph_from graph.window (before_kept graph) graph.kept in
    let found : rows_at later number ≡ Some rows =
    ap (λ (g : GraphData). rows_at g number) (sym (pushed_is graph push sound)) ∙ is in
    let kept : IsTrue (keeps later number) = (test_of (keeps later number) _ rows found).0 in
    let between = kept_between later number kept in
    let at = pushed_at graph push sound in
    let some : 0 < length graph.kept = omega (arith, at.first, at.before, between.1.0, reached) in
    let here = some_at graph sound some in
    let place : number - before_kept graph - 1 < length graph.kept =
    omega (arith, at.first, at.before, between.1.0, reached) in
    ap (λ (g : GraphData). rows_at g number) (sym (graph_is graph sound))
    ∙ (rows_of_the_push graph.window (before_kept graph) graph.kept number
    (is_kept earlier number between.0 (omega (arith, here.first, at.first, between.1.0))
    (omega (arith, here.last, reached)))
    ∙ (ap (option_map (λ (push : Push). push.rows))
    (sym (slice_get-front graph.kept (push ∷ []) (number - before_kept graph - 1) place))
    ∙ (sym (rows_of_the_push graph.window (before_kept graph) ps number kept) ∙ found)))

-- ---- keys

-- a step that can be had leads from a number
step_had : (status : EdgeStatus) (i : ℕ) → is_step_here status i ≡ true → (status ≡ Here) × (0 < i)
step_had Here i h = (refl, grind (arith, nat_tests))
step_had Absent i h = cc
step_had Gone i h = cc
step_had Awaited i h = cc
step_had Ahead i h = cc

has_step : (status : EdgeStatus) (i : ℕ) → status ≡ Here → 0 < i → is_step_here status i ≡ true
has_step Here i h some = grind (arith, nat_tests)
has_step Absent i h some = cc
has_step Gone i h some = cc
has_step Awaited i h some = cc
has_step Ahead i h some = cc

-- the keys of an edge that a graph keeps under a push are those that it had
pub span_still : (graph : GraphData) (push : Push) (i j : ℕ) (keys : List Key) → IsSound graph → j ≤ graph.last
    → span_of (with_push graph push) i j ≡ Some keys → span_of graph i j ≡ Some keys
span_still graph push i j keys sound reached is =
    let ps : List Push = graph.kept ++ push ∷ [] in
    let later : GraphData = graph_from graph.window (before_kept graph) ps in
    let earlier : GraphData = graph_from graph.window (before_kept graph) graph.kept in
    let found : span_of later i j ≡ Some keys =
    ap (λ (g : GraphData). span_of g i j) (sym (pushed_is graph push sound)) ∙ is in
    let can : IsTrue (is_step_here (status_of later i j) i) =
    (test_of (is_step_here (status_of later i j) i) _ keys found).0 in
    let had = step_had (status_of later i j) i can in
    let step = step_here later i j (omega (arith, had.1)) had.0 in
    let by = (here_by (is_shape i j) (first_of later) (last_of later) i j).0 had.0 in
    let at = pushed_at graph push sound in
    let low : before_kept graph + 1 ≤ i = omega (arith, at.first, step.from) in
    let some : 0 < length graph.kept = omega (arith, at.before, low, reached, step.shape.onward) in
    let here = some_at graph sound some in
    let status : status_of earlier i j ≡ Here =
    (here_by (is_shape i j) (first_of earlier) (last_of earlier) i j).1 (
      by.0,
      λ past. omega (arith, past, here.first, low),
      omega (arith, here.first, low, step.shape.onward),
      omega (arith, here.last, reached),
    ) in
    let front : i - before_kept graph ≤ length graph.kept = omega (arith, at.before, reached, step.shape.onward) in
    let within : j - i ≤ length (drop (i - before_kept graph) graph.kept) =
    omega (arith, length-drop (i - before_kept graph) graph.kept, at.before, reached, low, step.shape.onward) in
    let same : take (j - i) (drop (i - before_kept graph) ps) ≡ take (j - i) (drop (i - before_kept graph) graph.kept) =
    ap (take (j - i)) (drop-append-le (i - before_kept graph) graph.kept (push ∷ []) front)
    ∙ take-append-le (j - i) (drop (i - before_kept graph) graph.kept) (push ∷ []) within in
    ap (λ (g : GraphData). span_of g i j) (sym (graph_is graph sound))
    ∙ (span_of_the_pushes graph.window (before_kept graph) graph.kept i
    j (has_step (status_of earlier i j) i status had.1)
    ∙ (ap (λ (pushes : List Push). Some (key_set (flat_map (λ (push : Push). push.keys) pushes))) (sym same)
    ∙ (sym (span_of_the_pushes graph.window (before_kept graph) ps i j can) ∙ found)))

-- such an edge leads onward
pub span_onward : (graph : GraphData) (i j : ℕ) (keys : List Key) → span_of graph i j ≡ Some keys → i < j
span_onward graph i j keys is =
    let can : is_step_here (status_of graph i j) i ≡ true =
    (test_of (is_step_here (status_of graph i j) i) _ keys is).0 in
    let had = step_had (status_of graph i j) i can in
    (step_here graph i j (omega (arith, had.1)) had.0).shape.onward

-- its keys rise
pub span_rises : (graph : GraphData) (i j : ℕ) (keys : List Key) → Some keys ≡ span_of graph i j
    → IsStrictlySortedBy key_cmp keys
span_rises graph i j keys found =
    let same = (test_of (is_step_here (status_of graph i j) i) _ keys (sym found)).1 in
    let whole : key_set (flat_map (λ (push : Push). push.keys) (pushes_between graph i j)) ≡ keys = cc in
    subst (IsStrictlySortedBy key_cmp)
    whole (key_set_sorted (flat_map (λ (push : Push). push.keys) (pushes_between graph i j)))
