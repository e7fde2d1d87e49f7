-- Costs from a source of which one is written over are those of rows with that write.
use Rattle.std.proofs.Common.{◌≡◌, ℕ, zero, suc, refl, ap, sym, ◌∙◌, arith}
use Rattle.std.proofs.lemmas.Map.Keys.{sorted_head, sorted_tail}
use Rattle.std.proofs.lemmas.Map.Text.{is_eq-slice_cmp}
use Rattle.std.specs.Prelude.{Bool, true, false, cond, ◌&&◌, List, [], ◌∷◌, Option, Some, None, length, slice_get}
use Rattle.std.specs.Prelude.{slice_set, zip}
use Rattle.std.specs.BTreeMap.{is_at}
use Rattle.std.specs.List.{AllByRecursion}
use Rattle.std.specs.List.Sorted.{IsStrictlySortedBy}
use Rattle.std.specs.Ordering.{is_eq}
use Rattle.std.specs.declared.cmp.Ordering.TheVariants.{Less}
use Rattle.alto_rows.specs.declared.key.Key.{Key}
use Rattle.alto_rows.specs.declared.key.Key.TheVariants as key
use Rattle.alto_rows.specs.declared.value.Value.{Value}
use Rattle.alto_rows.specs.Costs.{cost_of, number_at}
use Rattle.alto_rows.specs.Order.{key_cmp, name_cmp, same_name}
use Rattle.alto_rows.specs.Rows.{AreSorted, Rows, value_of, with_value}
use Rattle.alto_rows.proofs.TouchesLemmas.{one_name}
use Rattle.alto_rows.proofs.WriteLemmas.{value_of-with_value}
use Rattle.cost_tables.specs.Tables.{Costs, HasCostsOf, Name, cost_to, destination_of}
use Rattle.cost_tables.proofs.FromLemmas.{cost_key, is_cost_key}

-- ---- a cost in place of another

-- a name behind others is another one
behind : (name : Name) (names : List Name) (place : ℕ) (dst : Name)
    → AllByRecursion (λ other. name_cmp name other ≡ Less) names → slice_get names place ≡ Some dst
    → same_name name dst ≡ false
behind name [] place dst less there = cc
behind name (first ∷ names) zero dst less there =
    let same : first ≡ dst = cc in
    rw (← same) (sym (is_eq-slice_cmp name first) ∙ ap is_eq less.0)
behind name (first ∷ names) (suc place) dst less there = behind name names place dst less.1 there

pub cost_to-set : (names : List Name) (costs : List ℕ) (place : ℕ) (dst : Name) (cost : ℕ) (q : Name)
    → IsStrictlySortedBy name_cmp names → length costs ≡ length names → slice_get names place ≡ Some dst
    → cost_to (zip names (slice_set costs place cost)) q
    ≡ cond (same_name q dst) (Some cost) (cost_to (zip names costs) q)
cost_to-set [] costs place dst cost q rise even there = cc
cost_to-set (name ∷ names) [] place dst cost q rise even there = absurd (omega (arith, even))
cost_to-set (name ∷ names) (one ∷ costs) zero dst cost q rise even there =
    let same : name ≡ dst = cc in
    rw (← same, is_eq-slice_cmp q name) (by (same_name q name))
  where
    rest : Option ℕ
    rest = cost_to (zip names costs) q

    by : (b : Bool) → cond b (Some cost) rest ≡ cond b (Some cost) (cond b (Some one) rest)
    by true = refl
    by false = refl
cost_to-set (name ∷ names) (one ∷ costs) (suc place) dst cost q rise even there =
    rw (is_eq-slice_cmp q name) (by (same_name q name) refl
    (cost_to-set names costs place dst cost q (sorted_tail name_cmp name names rise) (omega (arith, even)) there))
  where
    by : (b : Bool) → same_name q name ≡ b
        → cost_to (zip names (slice_set costs place cost)) q
        ≡ cond (same_name q dst) (Some cost) (cost_to (zip names costs) q)
        → cond b (Some one) (cost_to (zip names (slice_set costs place cost)) q)
        ≡ cond (same_name q dst) (Some cost) (cond b (Some one) (cost_to (zip names costs) q))
    by true e rest =
        let other : same_name q dst ≡ false =
        rw (one_name q name e) (behind name names place dst (sorted_head name_cmp name names rise) there) in
        rw other refl
    by false e rest = rest

-- ---- a write

-- a name is that of a destination, if there is one
abbrev pub is_that : Option Name → Name → Bool
is_that (Some dst) q = same_name q dst
is_that None q = false

-- the key of a pair is another one where that is of no cost from the source, or to another destination
pub pair_key : (net metric src q : Name) (at : Key)
    → is_at (key_cmp (key.Cost net metric src q)) at ≡ is_that (destination_of net metric src at) q
pair_key net metric src q at = cost_key net metric src q at ∙ by at
  where
    parts : (a b c : Bool) (to : Name)
        → (a && (b && (c && same_name q to))) ≡ is_that (cond (a && b && c) (Some to) None) q
    parts false b c to = refl
    parts true false c to = refl
    parts true true false to = refl
    parts true true true to = refl

    by : (at : Key) → is_cost_key net metric src q at ≡ is_that (destination_of net metric src at) q
    by (key.Cost of kind from to) = parts (same_name net of) (same_name metric kind) (same_name src from) to
    by _ = refl

-- what rows tell of a pair with a write
pub cost_written : (rows : Rows) (at : Key) (value : Option Value) (net metric src q : Name) → AreSorted rows
    → cost_of (with_value rows at value) net metric src q
    ≡ cond (is_that (destination_of net metric src at) q) (number_at value) (cost_of rows net metric src q)
cost_written rows at value net metric src q sorted =
    ap number_at (value_of-with_value rows at value (key.Cost net metric src q) sorted)
    ∙ rw (pair_key net metric src q at) (by (is_that (destination_of net metric src at) q))
  where
    by : (b : Bool) → number_at (cond b value (value_of rows (key.Cost net metric src q)))
        ≡ cond b (number_at value) (cost_of rows net metric src q)
    by true = refl
    by false = refl

-- a write of no cost from a source leaves its costs
pub left_by : (rows : Rows) (at : Key) (value : Option Value) (net metric src : Name) (costs : Costs) → AreSorted rows
    → destination_of net metric src at ≡ None → HasCostsOf rows net metric src costs
    → HasCostsOf (with_value rows at value) net metric src costs
left_by rows at value net metric src costs sorted none had q =
    had q ∙ sym (cost_written rows at value net metric src q sorted
    ∙ ap (λ dst. cond (is_that dst q) (number_at value) (cost_of rows net metric src q)) none)

-- and one of a cost to a destination writes over the one at its place
pub written_over : (rows : Rows) (at : Key) (value : Option Value) (net metric src : Name) (names : List Name)
    (costs more : List ℕ) (place : ℕ) (dst : Name) (cost : ℕ) → AreSorted rows → IsStrictlySortedBy name_cmp names
    → length costs ≡ length names → destination_of net metric src at ≡ Some dst → number_at value ≡ Some cost
    → slice_get names place ≡ Some dst → more ≡ slice_set costs place cost
    → HasCostsOf rows net metric src (zip names costs)
    → HasCostsOf (with_value rows at value) net metric src (zip names more)
written_over rows at value net metric src names costs more place dst cost sorted rise even to given there is had q =
    ap (λ costs. cost_to (zip names costs) q) is
    ∙ (cost_to-set names costs place dst cost q rise even there
    ∙ (ap (λ old. cond (same_name q dst) (Some cost) old) (had q)
    ∙ sym (cost_written rows at value net metric src q sorted
    ∙ (ap (λ dst. cond (is_that dst q) (number_at value) (cost_of rows net metric src q)) to
    ∙ ap (λ number. cond (same_name q dst) number (cost_of rows net metric src q)) given))))
