-- The key lists of edges: those of longer edges are merged of two, and they stay what they are while a graph goes on or
-- forgets.
use Rattle.std.proofs.Common.{◌≡◌, ◌≢◌, ℕ, ◌+◌, ◌-◌, ◌*◌, ◌%◌, ◌<◌, ◌≤◌, length, take, drop, refl, ap, sym, subst, ◌∙◌}
use Rattle.std.proofs.Common.{arith, length-drop}
use Rattle.std.proofs.Math.Seq.{take-add}
use Rattle.std.proofs.lemmas.Bool.Decides.{nat_tests}
use Rattle.std.proofs.lemmas.Bool.{eqb-true}
use Rattle.std.proofs.lemmas.Grind.{flat_map-append}
use Rattle.std.proofs.lemmas.List.{drop-drop, drop-append-le, take-append-le}
use Rattle.std.specs.Prelude.{Bool, true, false, nat_eq, List, ◌++◌}
use Rattle.std.specs.List.{flat_map}
use Rattle.alto_rows.specs.declared.key.Key.{Key}
use Rattle.tips_graph.specs.Graph.{Push}
use Rattle.tips_graph.specs.Keys.{key_set}
use Rattle.tips_graph.specs.Shortcuts.{IsStride, IsListOfEdge}
use Rattle.tips_graph.proofs.KeySetLemmas.{key_set-append}

-- what holds at a number and at all others
at_or : (P : ℕ → Type 0) (n stride : ℕ) → P n → (stride ≢ n → P stride) → P stride
at_or P n stride there other = by (nat_eq stride n) refl
  where
    by : (b : Bool) → nat_eq stride n ≡ b → P stride
    by true e = subst P (sym (eqb-true stride n e)) there
    by false e = other (grind (arith, nat_tests))

-- what holds at each of the five strides
pub at_strides : (P : ℕ → Type 0) → P 1 → P 2 → P 4 → P 8 → P 16 → (stride : ℕ) → IsStride stride → P stride
at_strides P one two four eight sixteen stride is =
    at_or P 1 stride one (λ not-1. at_or P 2 stride
    two (λ not-2. at_or P 4 stride four (λ not-4. at_or P 8 stride eight (λ not-8. at_or P 16 stride sixteen
    (λ not-16. absurd (grind (arith, nat_tests)))))))

-- a stride is positive
pub stride_positive : (stride : ℕ) → IsStride stride → 0 < stride
stride_positive = at_strides (λ stride. 0 < stride) (omega arith) (omega arith) (omega arith)
    (omega arith) (omega arith)

-- where two of a stride divide a number, it divides the number and the one that is a stride before
abbrev pub Halves : ℕ → Type 0
Halves half = (number : ℕ) → number % (2 * half) ≡ 0 → 2 * half ≤ number
    → (number % half ≡ 0) × ((number - half) % half ≡ 0)

-- as each stride does
pub halves : (half : ℕ) → IsStride half → Halves half
halves = at_strides Halves
    (λ number divides least. (omega arith, omega arith))
    (λ number divides least. (omega arith, omega arith))
    (λ number divides least. (omega arith, omega arith))
    (λ number divides least. (omega arith, omega arith))
    (λ number divides least. (omega arith, omega arith))

-- the keys of pushes
abbrev pub keys_of : List Push → List Key
keys_of pushes = flat_map (λ push. push.keys) pushes

-- lists that agree but for their first item agree further on
drop_further : (a n : ℕ) (pushes left : List Push) → drop 1 left ≡ drop (n + 1) pushes → 1 ≤ a
    → drop a left ≡ drop (n + a) pushes
drop_further a n pushes left same some =
    let one : 1 + (a - 1) ≡ a = omega arith in
    let two : n + 1 + (a - 1) ≡ n + a = omega arith in
    sym (drop-drop (a - 1) 1 left ∙ ap (λ (k : ℕ). drop k left) one) ∙ ap (drop (a - 1)) same
    ∙ drop-drop (a - 1) (n + 1) pushes ∙ ap (λ (k : ℕ). drop k pushes) two

-- a list stays that of its edge where numbers are forgotten, and where the first push that is left is another
pub list_fewer : (before n : ℕ) (pushes left : List Push) (number stride : ℕ) (keys : List Key)
    → drop 1 left ≡ drop (n + 1) pushes
    → IsListOfEdge before pushes number stride keys → IsListOfEdge (before + n) left number stride keys
list_fewer before n pushes left number stride keys same is = λ divides from.
    let place : n + (number - stride - (before + n)) ≡ number - stride - before = omega arith in
    is divides (omega arith)
    ∙ ap (λ (ps : List Push). key_set (keys_of (take stride ps)))
    (sym (drop_further (number - stride - (before + n)) n pushes left same (omega arith)
    ∙ ap (λ (k : ℕ). drop k pushes) place))

-- a list stays that of its edge where pushes follow
pub list_more : (before : ℕ) (pushes more : List Push) (number stride : ℕ) (keys : List Key)
    → number ≤ before + length pushes
    → IsListOfEdge before pushes number stride keys → IsListOfEdge before (pushes ++ more) number stride keys
list_more before pushes more number stride keys within is = λ divides from.
    let k : ℕ = number - stride - before in
    is divides from
    ∙ ap (λ (ps : List Push). key_set (keys_of ps))
    (sym (ap (take stride) (drop-append-le (number - stride - before) pushes more (omega arith))
    ∙ take-append-le stride (drop (number - stride - before) pushes)
    more (omega (arith, length-drop (number - stride - before) pushes))))

-- the keys of two runs of pushes, one behind the other, are those of both
pub keys_joined : (pushes : List Push) (start a b : ℕ)
    → key_set (key_set (keys_of (take a (drop start pushes))) ++ key_set (keys_of (take b (drop (start + a) pushes))))
    ≡ key_set (keys_of (take (a + b) (drop start pushes)))
keys_joined pushes start a b =
    key_set-append (keys_of (take a (drop start pushes))) (keys_of (take b (drop (start + a) pushes)))
    ∙ ap key_set (sym (ap keys_of (take-add a b (drop start pushes))
    ∙ flat_map-append (λ (push : Push). push.keys) (take a (drop start pushes)) (take b (drop a (drop start pushes)))
    ∙ ap (λ (ps : List Push). keys_of (take a (drop start pushes)) ++ keys_of (take b ps)) (drop-drop a start pushes)))

-- the list of an edge is the set of the keys of its halves
pub list_doubled : (before : ℕ) (pushes : List Push) (number half : ℕ) (older newer keys : List Key) → IsStride half
    → IsListOfEdge before pushes (number - half) half older → IsListOfEdge before pushes number half newer
    → (number % (2 * half) ≡ 0 → before + 1 + 2 * half ≤ number → keys ≡ key_set (older ++ newer))
    → IsListOfEdge before pushes number (2 * half) keys
list_doubled before pushes number half older newer keys is first second made = λ divides from.
    let start : ℕ = number - 2 * half - before in
    let both : (number % half ≡ 0) × ((number - half) % half ≡ 0) = halves half is number divides (omega arith) in
    let earlier : older ≡ key_set (keys_of (take half (drop (number - half - half - before) pushes))) =
    first both.1 (omega arith) in
    let later : newer ≡ key_set (keys_of (take half (drop (number - half - before) pushes))) =
    second both.0 (omega arith) in
    let at-first : number - half - half - before ≡ start = omega arith in
    let at-second : number - half - before ≡ start + half = omega arith in
    let twice : 2 * half ≡ half + half = omega arith in
    made divides from
    ∙ ap (λ (keys : List Key). key_set (keys ++ newer)) (earlier
    ∙ ap (λ (k : ℕ). key_set (keys_of (take half (drop k pushes)))) at-first)
    ∙ ap (λ (keys : List Key). key_set (key_set (keys_of (take half (drop start pushes))) ++ keys))
    (later ∙ ap (λ (k : ℕ). key_set (keys_of (take half (drop k pushes)))) at-second)
    ∙ keys_joined pushes start half half
    ∙ ap (λ (n : ℕ). key_set (keys_of (take n (drop start pushes)))) (sym twice)
