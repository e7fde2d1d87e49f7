-- The costs of pairs by column are those of the pairs one by one.
use Rattle.std.proofs.Common.{◌≡◌, ◌∙◌, ◌+◌, ◌<◌, ℕ, zero, suc, ◌-◌, ◌++◌, refl, ap, sym, arith, append_assoc, length}
use Rattle.std.proofs.Common.{get_or}
use Rattle.std.proofs.lemmas.Bool.{or_right}
use Rattle.std.proofs.lemmas.Bool.Decides.{nat_tests}
use Rattle.std.specs.Prelude.{Bool, true, false, nat_eq, List, [], ◌∷◌, Option, Some, None, is_some, map, option_map}
use Rattle.std.specs.Prelude.{slice_get}
use Rattle.std.specs.List.{range_with_len}
use Rattle.alto_rows.specs.Rows.{Rows}
use Rattle.alto_maps.specs.Shape.{Name}
use Rattle.alto_rows.specs.Costs.{cost_of}
use Rattle.cost_rule.specs.declared.constraint.Constraint.{Constraint}
use Rattle.cost_filters.specs.declared.columns.Column.{Column}
use Rattle.cost_filters.specs.declared.columns.Scale.TheVariants as scale
use Rattle.cost_filters.specs.declared.types.CostType.{CostType}
use Rattle.cost_filters.specs.Columns.{column_cost, columns_of, scaled}
use Rattle.cost_filters.specs.Filter.{costs_of, tested_costs}
use Rattle.cost_filters.specs.Holds.{all_hold, one_holds}
use Rattle.cost_filters.specs.Pairs.{PairsData, Table, cost_shown, costs_at, if_there, is_shown}
use Rattle.cost_filters.specs.Pairs.{one_is_empty, pair_costs, told_from, tested_from}
use Rattle.cost_filters.proofs.FilterLemmas.{columns_tell}

-- ---- one column

-- the place of a list
at_place : (f : Name → Option ℕ) (dsts : List Name) (at : ℕ) (d : Name) → at < length dsts
    → if_there (slice_get (map f dsts) at) ≡ f (get_or dsts at d)
at_place f [] at d within = absurd (omega arith)
at_place f (dst ∷ dsts) zero d within = refl
at_place f (dst ∷ dsts) (suc at) d within = at_place f dsts at d (omega arith)

-- costs that are told as they are
pub all_numerical : (costs : List (Option ℕ)) → costs ≡ map (option_map (scaled scale.Numerical)) costs
all_numerical [] = refl
all_numerical (None ∷ costs) = ap (λ (more : List (Option ℕ)). None ∷ more) (all_numerical costs)
all_numerical (Some cost ∷ costs) = ap (λ (more : List (Option ℕ)). Some cost ∷ more) (all_numerical costs)

-- ---- all columns at a place

told_at : (rows : Rows) (net src : Name) (columns : List Column) (dsts : List Name) (at : ℕ) (d : Name)
    → at < length dsts
    → costs_at at (told_from rows net columns src dsts) ≡ map (column_cost rows net src (get_or dsts at d)) columns
told_at rows net src [] dsts at d within = refl
told_at rows net src (column ∷ columns) dsts at d within =
    λ i. at_place (λ dst. column_cost rows net src dst column) dsts at d within i ∷ told_at rows net src columns
    dsts at d within i

tested_at : (rows : Rows) (net src : Name) (types : List CostType) (dsts : List Name) (at : ℕ) (d : Name)
    → at < length dsts
    → costs_at at (tested_from rows net types src dsts) ≡ tested_costs rows net types src (get_or dsts at d)
tested_at rows net src [] dsts at d within = refl
tested_at rows net src (type ∷ types) dsts at d within =
    λ i. at_place (λ dst. cost_of rows net type.metric src dst) dsts at d within i ∷ tested_at rows net src types
    dsts at d within i

-- ---- constraints

-- a list without a constraint holds of every pair
pub empty_holds : (costs : List (Option ℕ)) (alternatives : List (List Constraint)) → one_is_empty alternatives ≡ true
    → one_holds costs alternatives ≡ true
empty_holds costs [] h = cc
empty_holds costs ([] ∷ alternatives) h = refl
empty_holds costs ((constraint ∷ constraints) ∷ alternatives) h =
    or_right (all_hold costs (constraint ∷ constraints)) (one_holds costs alternatives)
    (empty_holds costs alternatives (rw (not_empty constraint constraints) at h))
  where
    not_empty : (constraint : Constraint) (constraints : List Constraint)
        → nat_eq (length (constraint ∷ constraints)) 0 ≡ false
    not_empty constraint constraints = grind (arith, nat_tests)

-- ---- pairs

-- the costs at a place, where they make a pair
abbrev shown_at : List (List Constraint) → Table → Table → ℕ → Option (List (Option ℕ))
shown_at alternatives told tested at = cost_shown told at (is_shown alternatives told tested at)

-- the pair at a place of the costs is that of the destination there
shown_there : (pairs : PairsData) (src : Name) (dsts : List Name) (told tested : Table) (at : ℕ) (d : Name)
    → at < length dsts
    → costs_at at told ≡ costs_of pairs.rows pairs.net pairs.types src (get_or dsts at d)
    → (one_is_empty pairs.alternatives ≡ false
    → costs_at at tested ≡ tested_costs pairs.rows pairs.net pairs.tested src (get_or dsts at d))
    → shown_at pairs.alternatives told tested at ≡ pair_costs pairs src (get_or dsts at d)
shown_there pairs src dsts told tested at d within costs tests = by (one_is_empty pairs.alternatives) refl
  where
    by : (b : Bool) → one_is_empty pairs.alternatives ≡ b
        → shown_at pairs.alternatives told tested at ≡ pair_costs pairs src (get_or dsts at d)
    by true e =
        let holds : one_holds (tested_costs pairs.rows pairs.net pairs.tested src (get_or dsts at d)) pairs.alternatives
        ≡ true =
        empty_holds (tested_costs pairs.rows pairs.net pairs.tested src (get_or dsts at d)) pairs.alternatives e in
        rw (costs, e, holds) refl
    by false e = rw (costs, e, tests e) refl

-- what is made at each place of a list
pub each_place : {A B : Type 0} (g : ℕ → A) (f : B → A) (xs : List B) (start : ℕ)
    → ((at : ℕ) (d : B) → at < length xs → g (start + at) ≡ f (get_or xs at d))
    → map g (range_with_len start (length xs)) ≡ map f xs
each_place g f [] start each = refl
each_place {A} g f (x ∷ xs) start each =
    let here : g start ≡ f x = ap g (omega arith) ∙ each 0 x (omega arith) in
    let more : map g (range_with_len (start + 1) (length xs)) ≡ map f xs =
    each_place g f xs (start + 1) (λ at d within. ap g (omega arith) ∙ each (suc at) d (omega arith)) in
    ap (λ (one : A). one ∷ map g (range_with_len (start + 1) (length xs))) here
    ∙ ap (λ (rest : List A). f x ∷ rest) more

pub zero_more : (at : ℕ) → 0 + at ≡ at
zero_more at = omega arith

-- the costs at a place, where they are shown, are the pair of the destination there
pub pair_at : (pairs : PairsData) (src : Name) (dsts : List Name) (columns : List Column) (told tested : Table)
    → columns ≡ columns_of pairs.rows pairs.net pairs.types
    → told ≡ told_from pairs.rows pairs.net columns src dsts
    → tested ≡ tested_from pairs.rows pairs.net pairs.tested src dsts
    → (at : ℕ) (d : Name) → at < length dsts
    → shown_at pairs.alternatives told tested at ≡ pair_costs pairs src (get_or dsts at d)
pair_at pairs src dsts columns told tested made costs tests at d within =
    shown_there pairs src dsts told tested at d within
    (ap (costs_at at) costs
    ∙ (told_at pairs.rows pairs.net src columns dsts at d within
    ∙ (ap (map (column_cost pairs.rows pairs.net src (get_or dsts at d))) made
    ∙ columns_tell pairs.rows pairs.net src (get_or dsts at d) pairs.types)))
    (λ none. ap (costs_at at) tests ∙ tested_at pairs.rows pairs.net src pairs.tested dsts at d within)

-- ---- steps of loops

-- what is made at a place is added before the places that are left
pub place_more : {A : Type 0} (g : ℕ → A) (before all : List A) (at count : ℕ) (one : A) → at < count → one ≡ g at
    → before ++ map g (range_with_len at (count - at)) ≡ all
    → (before ++ one ∷ []) ++ map g (range_with_len (at + 1) (count - (at + 1))) ≡ all
place_more {A} g before all at count one within is whole =
    let step : count - at ≡ suc (count - (at + 1)) = omega arith in
    append_assoc before (one ∷ []) (map g (range_with_len (at + 1) (count - (at + 1))))
    ∙ (ap (λ (x : A). before ++ x ∷ map g (range_with_len (at + 1) (count - (at + 1)))) is
    ∙ (ap (λ n. before ++ map g (range_with_len at n)) (sym step) ∙ whole))

-- ---- what is shown

pub is_found : (told : Table) (at : ℕ) (flag : Bool) → flag ≡ is_some (cost_shown told at flag)
is_found told at true = refl
is_found told at false = refl
