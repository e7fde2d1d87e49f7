-- The halves of an edge by more than one number: they can be had where it can, and their keys make its keys.
use Rattle.std.proofs.Common.{◌≡◌, ◌≢◌, ℕ, ◌+◌, ◌-◌, ◌/◌, ◌%◌, ◌<◌, ◌≤◌, take, drop, refl, sym, ap, subst, ◌∙◌}
use Rattle.std.proofs.Common.{arith}
use Rattle.std.proofs.lemmas.Option.{none-some, same_Some}
use Rattle.std.specs.Prelude.{List, ◌++◌, None, Some}
use Rattle.alto_rows.specs.declared.key.Key.{Key}
use Rattle.tips_graph.specs.Edges.{is_shape}
use Rattle.tips_graph.specs.Graph.{GraphData, first_of, last_of, status_of, span_of}
use Rattle.tips_graph.specs.Keys.{key_set}
use Rattle.tips_graph.specs.Shortcuts.{StepData, IsStride, list_of}
use Rattle.tips_graph.specs.declared.status.EdgeStatus.TheVariants.{Here}
use Rattle.tips_graph.proofs.LongestLemmas.{stride_shape}
use Rattle.tips_graph.proofs.ShortcutLemmas.{at_strides, keys_joined, keys_of, stride_positive}
use Rattle.tips_graph.proofs.SpanLemmas.{IsStep, step_here, span_is}
use Rattle.tips_graph.proofs.StatusLemmas.{here_by}
use Rattle.tips_graph.proofs.StepLemmas.{set_again}

-- half a stride is one, which divides where both halves begin
record IsHalf (i j half : ℕ) : Type 0 where
  stride : IsStride half
  first : i % half ≡ 0
  second : (i + half) % half ≡ 0
  twice : i + half + half ≡ j

-- half of each stride but 1
half_is : (stride : ℕ) → IsStride stride
    → (i : ℕ) → stride ≢ 1 → (i + stride) % stride ≡ 0 → IsHalf i (i + stride) (stride / 2)
half_is = at_strides
    (λ stride. (i : ℕ) → stride ≢ 1 → (i + stride) % stride ≡ 0 → IsHalf i (i + stride) (stride / 2))
    (λ i more divides. absurd (more refl))
    (λ i more divides. record { stride = refl; first = omega arith; second = omega arith; twice = omega arith })
    (λ i more divides. record { stride = refl; first = omega arith; second = omega arith; twice = omega arith })
    (λ i more divides. record { stride = refl; first = omega arith; second = omega arith; twice = omega arith })
    (λ i more divides. record { stride = refl; first = omega arith; second = omega arith; twice = omega arith })

-- an edge by a stride between kept numbers can be had
stride_here : (graph : GraphData) (i stride : ℕ) → 0 < i → IsStride stride → i % stride ≡ 0
    → first_of graph ≤ i → i + stride ≤ last_of graph → status_of graph i (i + stride) ≡ Here
stride_here graph i stride some is divides from to =
    (here_by (is_shape i (i + stride)) (first_of graph) (last_of graph) i (i + stride)).1
    (stride_shape i stride some is divides, λ past. omega (arith, past, from), omega (arith, from), to)

-- a stride of which no list is kept is more than 1
pub none_kept : (step : StepData) (stride : ℕ) → None ≡ list_of step stride → stride ≢ 1
none_kept step stride none one = none-some step.keys (none ∙ ap (list_of step) one)

-- an edge has a middle, to which and from which edges lead that can be had
pub record HasMiddle (graph : GraphData) (i middle j : ℕ) : Type 0 where
  pub onward : i < middle
  pub further : middle < j
  pub first : status_of graph i middle ≡ Here
  pub second : status_of graph middle j ≡ Here

-- as each edge by more than one number has that can be had
pub middle_of : (graph : GraphData) (i j : ℕ) → i ≢ 0 → status_of graph i j ≡ Here → j - i ≢ 1
    → HasMiddle graph i (i + (j - i) / 2) j
middle_of graph i j some here more =
    let edge : IsStep graph i j = step_here graph i j some here in
    let whole : i + (j - i) ≡ j = omega (arith, edge.shape.onward) in
    let half : IsHalf i (i + (j - i)) ((j - i) / 2) =
    half_is (j - i) edge.shape.stride i more (subst (λ (n : ℕ). n % (j - i) ≡ 0) (sym whole) edge.shape.divides) in
    let positive : 0 < (j - i) / 2 = stride_positive ((j - i) / 2) half.stride in
    let end : i + (j - i) / 2 + (j - i) / 2 ≡ j = half.twice ∙ whole in
    record {
      onward = omega (arith, positive);
      further = omega (arith, positive, end);
      first = stride_here graph i ((j - i) / 2) (omega (arith, some)) half.stride half.first edge.from
          (omega (arith, end, edge.to));
      second = subst (λ (n : ℕ). status_of graph (i + (j - i) / 2) n ≡ Here) end
          (stride_here graph (i + (j - i) / 2) ((j - i) / 2) (omega (arith, some)) half.stride half.second
          (omega (arith, edge.from)) (omega (arith, end, edge.to)));
    }

-- the keys of both halves are sets, and the set of both is the keys of the edge
pub record AreHalves (graph : GraphData) (i j : ℕ) (older newer : List Key) : Type 0 where
  pub older_set : key_set older ≡ older
  pub newer_set : key_set newer ≡ newer
  pub both : (keys : List Key) → keys ≡ key_set (older ++ newer) → Some keys ≡ span_of graph i j

-- as those of the edges to a middle and from it
pub halves_of : (graph : GraphData) (i middle j : ℕ) (older newer : List Key) → i ≢ 0 → status_of graph i j ≡ Here
    → HasMiddle graph i middle j → Some older ≡ span_of graph i middle → Some newer ≡ span_of graph middle j
    → AreHalves graph i j older newer
halves_of graph i middle j older newer some here at one two =
    let edge : IsStep graph i j = step_here graph i j some here in
    let start : ℕ = i + 1 - first_of graph in
    let front : List Key = keys_of (take (middle - i) (drop start graph.kept)) in
    let back : List Key = keys_of (take (j - middle) (drop (middle + 1 - first_of graph) graph.kept)) in
    let place : middle + 1 - first_of graph ≡ i + 1 - first_of graph + (middle - i) =
    omega (arith, at.onward, edge.from) in
    let width : middle - i + (j - middle) ≡ j - i = omega (arith, at.onward, at.further) in
    let first : older ≡ key_set front = same_Some older (key_set front) (one ∙ span_is graph i middle some at.first) in
    let second : newer ≡ key_set back =
    same_Some newer (key_set back) (two ∙ span_is graph middle j (omega (arith, at.onward)) at.second) in
    record {
      older_set = set_again older front first;
      newer_set = set_again newer back second;
      both = λ (keys : List Key) made.
          ap (λ (keys : List Key). Some keys)
          (made ∙ ap (λ (keys : List Key). key_set (keys ++ newer)) first
          ∙ ap (λ (keys : List Key). key_set (key_set front ++ keys))
          (second ∙ ap (λ (k : ℕ). key_set (keys_of (take (j - middle) (drop k graph.kept)))) place)
          ∙ keys_joined graph.kept start (middle - i) (j - middle)
          ∙ ap (λ (n : ℕ). key_set (keys_of (take n (drop start graph.kept)))) width)
          ∙ sym (span_is graph i j some here);
    }
