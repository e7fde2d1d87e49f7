-- What the updates graph of a declared resource tells.
use Rattle.std.proofs.Common.{◌≡◌, ℕ, ◌+◌, ◌-◌, ◌<◌, ◌≤◌, if◌then◌else◌, true, false, take, drop, length, length-drop}
use Rattle.std.proofs.Common.{Option, Some, None, refl, ap, sym, ◌∙◌, arith}
use Rattle.std.proofs.lemmas.List.{drop-drop}
use Rattle.std.specs.Prelude.{Bool, not, ◌&&◌, ◌||◌, ◌==◌, List, option_map, nat_lt, is_some, IfSome, IsTrue, slice_get}
use Rattle.std.specs.List.{flat_map}
use Rattle.std.proofs.lemmas.Bool.Decides.{nat_tests}
use Rattle.alto_rows.specs.declared.key.Key.TheVariants as key
use Rattle.alto_rows.specs.declared.value.Value.{Value}
use Rattle.alto_rows.specs.declared.value.Value.TheVariants as value
use Rattle.alto_rows.specs.Good.{AreGood, Fits}
use Rattle.alto_rows.specs.Rows.{Rows, value_of}
use Rattle.alto_rows.specs.Versions.{number_in, version_of, window_of}
use Rattle.tips_graph.specs.declared.status.EdgeStatus.{EdgeStatus}
use Rattle.tips_graph.specs.declared.status.EdgeStatus.TheVariants.{Absent, Gone, Awaited, Ahead, Here}
use Rattle.tips_graph.specs.Edges as edges
use Rattle.tips_graph.specs.Graph.{GraphData, Push, first_of, last_of, keeps, span_of, status_of, is_step_here}
use Rattle.tips_graph.specs.Graph.{rows_at as graph_rows}
use Rattle.tips_graph.specs.Keys.{key_set}
use Rattle.tips_graph.proofs.GraphLaws.{first_from, last_from, rows_of_the_push, span_of_the_pushes}
use Rattle.alto_book.specs.Book.{rows_of}
use Rattle.alto_book.specs.NumberLaws.{GraphTellsNumbers}
use Rattle.alto_book.specs.Numbers.{batches_to, first_kept, floor_of, keys_between, origin_of, pushes_of, rows_at}
use Rattle.alto_book.specs.Numbers.{status_at, updates_graph}
use Rattle.alto_book.proofs.BetweenLemmas.{length-pushes_of}
use Rattle.alto_book.proofs.GraphLemmas.{floor_below, last-updates_graph}
use Rattle.alto_book.proofs.MapLemmas.{versioned}
use Rattle.alto_book.proofs.PushLemmas.{between, keys_of_pushes, rows_of_push}
use Rattle.alto_book.proofs.StateLemmas.{good_rows, good_state}
use Rattle.alto_book.proofs.TrimLemmas.{slice_get-drop}

-- what a graph keeps lies between its ends
kept_within : (graph : GraphData) (number : ℕ) → keeps graph number ≡ true
    → (first_of graph ≤ number) × (number ≤ last_of graph)
kept_within graph number h = (grind (arith, nat_tests), grind (arith, nat_tests))

kept_true : (graph : GraphData) (number : ℕ) → 1 ≤ number → first_of graph ≤ number → number ≤ last_of graph
    → keeps graph number ≡ true
kept_true graph number some low high = grind (arith, nat_tests)

-- an edge that can be had leads on to a number that is kept, from 0 or from one that is
pub record LeadsOn (first last i j : ℕ) : Type 0 where
  pub onward : i < j
  pub from : 1 ≤ i → first ≤ i
  pub low : first ≤ j
  pub high : j ≤ last

-- the status of an edge, by whether there may be one
abbrev status_by : Bool → ℕ → ℕ → ℕ → ℕ → EdgeStatus
status_by shape first last i j =
    if not shape then Absent
    else if nat_lt 0 i && nat_lt i first || nat_lt j first then Gone
    else if i == last && j == last + 1 then Awaited
    else if nat_lt last j then Ahead
    else Here

pub leads_on : (first last i j : ℕ) → edges.edge_status first last i j ≡ Here → LeadsOn first last i j
leads_on first last i j here = by (edges.is_shape i j) onward here
  where
    onward : edges.is_shape i j ≡ true → i < j
    onward shape = grind (arith, nat_tests)

    by : (shape : Bool) → (shape ≡ true → i < j) → status_by shape first last i j ≡ Here → LeadsOn first last i j
    by false ahead is = cc
    by true ahead is = record {
      onward = ahead refl;
      from = λ some. grind (arith, nat_tests);
      low = grind (arith, nat_tests);
      high = grind (arith, nat_tests);
    }

-- an edge that can be had could be while lower numbers were kept
pub here_lower : (lower first last i j : ℕ) → lower ≤ first → edges.edge_status first last i j ≡ Here
    → edges.edge_status lower last i j ≡ Here
here_lower lower first last i j le here = by (edges.is_shape i j) here
  where
    by : (shape : Bool) → status_by shape first last i j ≡ Here → status_by shape lower last i j ≡ Here
    by false is = cc
    by true is = grind (arith, nat_tests)

-- a snapshot has no span
no_span : (graph : GraphData) (status : EdgeStatus) → is_step_here status 0 ≡ false
no_span graph Here = refl
no_span graph Absent = refl
no_span graph Gone = refl
no_span graph Awaited = refl
no_span graph Ahead = refl

-- a window is wide enough for a number
window_some : (rows : Rows) → AreGood rows → 1 ≤ window_of rows
window_some rows good = by (value_of rows key.Window) (good.fit key.Window) good.window
  where
    by : (o : Option Value) → IfSome o (Fits key.Window) → is_some o ≡ true → 1 ≤ number_in o
    by None fit some = cc
    by (Some (value.Num n)) fit some = omega (arith, fit.1.0)
    by (Some _) fit some = absurd fit.1

positive : (i : ℕ) → 1 ≤ i → IsTrue (nat_lt 0 i)
positive i low = grind (arith, nat_tests)

pub graph_tells : GraphTellsNumbers
graph_tells book of legal declared = record {
  some = omega (arith, last, some);
  last = last;
  reached = last-updates_graph book of legal declared;
  first = first;
  status = status;
  recommended = λ held. ap (λ n. edges.recommended_edge n (last_of graph) held) first
      ∙ ap (λ n. edges.recommended_edge (first_kept book of) n held) last;
  leads = λ i j here.
      let edge : LeadsOn (first_kept book of) (version_of (rows_of book) of) i j =
      leads_on (first_kept book of) (version_of (rows_of book) of) i j here in
      kept_true graph j (omega (arith, edge.onward)) (omega (arith, edge.low, first)) (omega (arith, edge.high, last));
  begins = λ i j low here.
      let edge : LeadsOn (first_kept book of) (version_of (rows_of book) of) i j =
      leads_on (first_kept book of) (version_of (rows_of book) of) i j here in
      kept_true graph i (omega (arith, low)) (omega (arith, edge.from low, first))
      (omega (arith, edge.onward, edge.high, last));
  rows = rows;
  good = λ number. good_state book (batches_to book of number) legal;
  declared = λ number kept.
      let within : (floor_of book of ≤ number) × (number ≤ version_of (rows_of book) of) = kept_now number kept in
      let it = between book of number
      number (record { legal = legal; declared = declared; from = within.0; rise = omega arith; upto = within.1 }) in
      it.declared (batches_to book of number) (omega arith) it.first.within;
  snapshot = λ j. ap (λ b. if b then
      Some (key_set (flat_map (λ (push : Push). push.keys) (take (j - 0) (drop (0 + 1 - first_of graph) graph.kept))))
      else None) (no_span graph (status_of graph 0 j));
  step = step;
}
  where
    graph : GraphData
    graph = updates_graph book of

    window : ℕ
    window = window_of (rows_of book)

    before : ℕ
    before = floor_of book of - 1

    past : ℕ
    past = floor_of book of - origin_of book of

    pushes : List Push
    pushes = drop past (pushes_of book of)

    wide : 1 ≤ window
    wide = window_some (rows_of book) (good_rows book legal)

    some : 1 ≤ version_of (rows_of book) of
    some = versioned (rows_of book) of (good_rows book legal) declared

    floor : floor_of book of ≤ version_of (rows_of book) of
    floor = floor_below book of legal declared

    counted : length pushes + floor_of book of ≡ version_of (rows_of book) of + 1
    counted = omega (arith, length-drop past (pushes_of book of), length-pushes_of book of legal, floor)

    last : last_of graph ≡ version_of (rows_of book) of
    last = last_from window before pushes wide (omega (arith, counted, floor)) ∙ omega (arith, counted)

    first : first_of graph ≡ first_kept book of
    first = first_from window before pushes (omega (arith, last, some)) ∙ omega (arith, counted, floor)

    status : (i j : ℕ) → status_of graph i j ≡ status_at book of i j
    status i j = ap (λ n. edges.edge_status n (last_of graph) i j) first
        ∙ ap (λ n. edges.edge_status (first_kept book of) n i j) last

    kept_now : (number : ℕ) → keeps graph number ≡ true
        → (floor_of book of ≤ number) × (number ≤ version_of (rows_of book) of)
    kept_now number kept =
        let within : (first_of graph ≤ number) × (number ≤ last_of graph) = kept_within graph number kept in
        (omega (arith, within.0, first), omega (arith, within.1, last))

    rows : (number : ℕ) → keeps graph number ≡ true → graph_rows graph number ≡ Some (rows_at book of number)
    rows number kept =
        let within : (floor_of book of ≤ number) × (number ≤ version_of (rows_of book) of) = kept_now number kept in
        let place : past + (number - before - 1) ≡ number - origin_of book of = omega (arith, within.0) in
        rows_of_the_push window before pushes number kept
        ∙ (ap (option_map (λ (push : Push). push.rows)) (slice_get-drop (pushes_of book of) past (number - before - 1))
        ∙ (ap (λ n. option_map (λ (push : Push). push.rows) (slice_get (pushes_of book of) n)) place
        ∙ rows_of_push book of number legal (omega (arith, within.0)) within.1))

    step : (i j : ℕ) → 1 ≤ i → status_at book of i j ≡ Here → span_of graph i j ≡ Some (keys_between book of i j)
    step i j low here =
        let here_now : status_of graph i j ≡ Here = status i j ∙ here in
        let edge : LeadsOn (first_kept book of) (version_of (rows_of book) of) i j =
        leads_on (first_kept book of) (version_of (rows_of book) of) i j here in
        let from : first_kept book of ≤ i = edge.from low in
        let test : IsTrue (is_step_here (status_of graph i j) i) = rw here_now (positive i low) in
        let place : past + (i - before) ≡ i + 1 - origin_of book of = omega (arith, from) in
        span_of_the_pushes window before pushes i j test
        ∙ (ap (λ (left : List Push). Some (key_set (flat_map (λ (push : Push). push.keys) (take (j - i) left))))
        (drop-drop (i - before) past (pushes_of book of) ∙ ap (λ n. drop n (pushes_of book of)) place)
        ∙ ap Some (sym (keys_of_pushes book of i j
        (record {
          legal = legal;
          declared = declared;
          from = omega (arith, from);
          rise = omega (arith, edge.onward);
          upto = edge.high;
        }))))
