-- The costs that rows give are those that the map shows.
use Rattle.std.proofs.Common.{◌≡◌, ℕ, refl, ap, ◌∙◌}
use Rattle.std.specs.Prelude.{Bool, true, false, List, [], ◌∷◌, Option, Some, filter, map}
use Rattle.std.specs.List.{AllByRecursion, filter_map}
use Rattle.std.specs.Ordering.{is_eq}
use Rattle.serde_json.specs.Data.{Data}
use Rattle.alto_rows.specs.declared.key.Key.{Key}
use Rattle.alto_rows.specs.declared.key.Key.TheVariants as key
use Rattle.alto_rows.specs.declared.span.Span.TheVariants as span
use Rattle.alto_rows.specs.declared.value.Value.{Value}
use Rattle.alto_rows.specs.declared.value.Value.TheVariants as value
use Rattle.alto_rows.specs.Good.{AreGood, Fits, Takes}
use Rattle.alto_rows.specs.Order.{same_name}
use Rattle.alto_rows.specs.Rows.{Rows, AreSorted, value_of}
use Rattle.alto_rows.proofs.OrderLemmas.{key_cmp_itself}
use Rattle.alto_rows.proofs.RowsLemmas.{ArePast, less_back, past_first, sorted_rest, value_of-first, value_of-other}
use Rattle.alto_rows.proofs.TouchesLemmas.{one_name}
use Rattle.alto_maps.specs.Shape.{Name}
use Rattle.cost_docs.specs.declared.costs.Cost.{Cost}
use Rattle.alto_rows.specs.Costs.{cost_of, number_at}
use Rattle.cost_docs.specs.CostMap.{destinations_of, source_in}
use Rattle.cost_docs.specs.Costs.{costs_within}
use Rattle.cost_docs.specs.Ordinal.{cost_in}

-- ---- rows and their values

-- each of these rows holds what all rows have at its key
abbrev pub AreTold : Rows → Rows → Type 0
AreTold all rows = AllByRecursion (λ row. value_of all row.0 ≡ Some row.1) rows

told_more : (row : Key × Value) (rows more : Rows) → ArePast row.0 more → AreTold rows more → AreTold (row ∷ rows) more
told_more row rows [] past told = tt
told_more row rows (next ∷ more) past told = (
  value_of-other next.0 row rows (ap is_eq (less_back row.0 next.0 past.0))
      ∙ told.0,
  told_more row rows more past.1 told.1,
)

-- sorted rows do
pub all_told : (rows : Rows) → AreSorted rows → AreTold rows rows
all_told [] sorted = tt
all_told (row ∷ rows) sorted = (
  value_of-first row.0 row rows (key_cmp_itself row.0),
  told_more row rows rows (past_first row rows sorted)
      (all_told rows (sorted_rest row rows sorted)),
)

-- each of these rows has a value of its key's kind
abbrev pub AreTaken : Rows → Type 0
AreTaken rows = AllByRecursion (λ row. Takes row.0 row.1) rows

-- rows that good rows tell do
pub all_taken : (all rows : Rows) → AreGood all → AreTold all rows → AreTaken rows
all_taken all [] good told = tt
all_taken all (row ∷ rows) good told =
    let fits : Fits row.0 row.1 = rw told.0 at (good.fit row.0) in
    (fits.1, all_taken all rows good told.1)

-- ---- the costs of a span

-- those of a source are among those of the metric
pub costs_from : (net metric src : Name) (rows : Rows)
    → filter (λ (c : Cost). same_name src c.source) (costs_within rows (span.CostsIn net metric))
    ≡ costs_within rows (span.CostsFrom net metric src)
costs_from net metric src [] = refl
costs_from net metric src ((key.Cost of kind from to, v) ∷ rows) =
    by (same_name net of) (same_name metric kind) (same_name src from) refl refl refl v (costs_from net metric src rows)
  where
    by : (a b c : Bool) → same_name net of ≡ a → same_name metric kind ≡ b → same_name src from ≡ c → (v : Value)
        → filter (λ (c : Cost). same_name src c.source) (costs_within rows (span.CostsIn net metric))
        ≡ costs_within rows (span.CostsFrom net metric src)
        → filter (λ (c : Cost). same_name src c.source)
        (costs_within ((key.Cost of kind from to, v) ∷ rows) (span.CostsIn net metric))
        ≡ costs_within ((key.Cost of kind from to, v) ∷ rows) (span.CostsFrom net metric src)
    by true true true e f h (value.Num n) below =
        rw (e, f, h) (ap (λ (more : List Cost). record { source = from; destination = to; amount = n } ∷ more) below)
    by true true false e f h (value.Num n) below = rw (e, f, h) below
    by true true true e f h value.Unit below = rw (e, f, h) below
    by true true false e f h value.Unit below = rw (e, f, h) below
    by true true true e f h (value.Text text) below = rw (e, f, h) below
    by true true false e f h (value.Text text) below = rw (e, f, h) below
    by true true true e f h (value.Names names) below = rw (e, f, h) below
    by true true false e f h (value.Names names) below = rw (e, f, h) below
    by true false c e f h v below = rw (e, f) below
    by false b c e f h v below = rw e below
costs_from net metric src (_ ∷ rows) = costs_from net metric src rows

-- their sources are those of the map
pub sources_given : (net metric : Name) (rows : Rows) → AreTaken rows
    → map (λ (c : Cost). c.source) (costs_within rows (span.CostsIn net metric))
    ≡ filter_map (source_in net metric) rows
sources_given net metric [] taken = refl
sources_given net metric ((key.Cost of kind from to, v) ∷ rows) taken =
    by (same_name net of) (same_name metric kind) refl refl v taken.0 (sources_given net metric rows taken.1)
  where
    by : (a b : Bool) → same_name net of ≡ a → same_name metric kind ≡ b → (v : Value)
        → Takes (key.Cost of kind from to) v
        → map (λ (c : Cost). c.source) (costs_within rows (span.CostsIn net metric))
        ≡ filter_map (source_in net metric) rows
        → map (λ (c : Cost). c.source) (costs_within ((key.Cost of kind from to, v) ∷ rows) (span.CostsIn net metric))
        ≡ filter_map (source_in net metric) ((key.Cost of kind from to, v) ∷ rows)
    by true true e f (value.Num n) takes below = rw (e, f) (ap (λ (more : List Name). from ∷ more) below)
    by true true e f value.Unit takes below = absurd takes
    by true true e f (value.Text text) takes below = absurd takes
    by true true e f (value.Names names) takes below = absurd takes
    by true false e f v takes below = rw (e, f) below
    by false b e f v takes below = rw e below
sources_given net metric (_ ∷ rows) taken = sources_given net metric rows taken.1

-- their amounts are the costs of the metric
pub amounts_given : (net metric : Name) (rows : Rows)
    → map (λ (c : Cost). c.amount) (costs_within rows (span.CostsIn net metric)) ≡ filter_map (cost_in net metric) rows
amounts_given net metric [] = refl
amounts_given net metric ((key.Cost of kind from to, v) ∷ rows) =
    by (same_name net of) (same_name metric kind) refl refl v (amounts_given net metric rows)
  where
    by : (a b : Bool) → same_name net of ≡ a → same_name metric kind ≡ b → (v : Value)
        → map (λ (c : Cost). c.amount) (costs_within rows (span.CostsIn net metric))
        ≡ filter_map (cost_in net metric) rows
        → map (λ (c : Cost). c.amount) (costs_within ((key.Cost of kind from to, v) ∷ rows) (span.CostsIn net metric))
        ≡ filter_map (cost_in net metric) ((key.Cost of kind from to, v) ∷ rows)
    by true true e f (value.Num n) below = rw (e, f) (ap (λ (more : List ℕ). n ∷ more) below)
    by true true e f value.Unit below = rw (e, f) below
    by true true e f (value.Text text) below = rw (e, f) below
    by true true e f (value.Names names) below = rw (e, f) below
    by true false e f v below = rw (e, f) below
    by false b e f v below = rw e below
amounts_given net metric (_ ∷ rows) = amounts_given net metric rows

-- what is told of each destination of a source is told of its cost
pub costs_told : (told_of : Option ℕ → Data) (net metric src : Name) (all rows : Rows)
    → AreTold all rows → AreTaken rows
    → map {B = Name × Data} (λ (dst : Name). (dst, told_of (cost_of all net metric src dst)))
    (destinations_of rows net metric src)
    ≡ map {B = Name × Data} (λ (c : Cost). (c.destination, told_of (Some c.amount)))
    (costs_within rows (span.CostsFrom net metric src))
costs_told told_of net metric src all [] told taken = refl
costs_told told_of net metric src all ((key.Cost of kind from to, v) ∷ rows) told taken =
    by (same_name net of) (same_name metric kind) (same_name src from) refl refl refl v taken.0
    told.0 (costs_told told_of net metric src all rows told.1 taken.1)
  where
    by : (a b c : Bool) → same_name net of ≡ a → same_name metric kind ≡ b → same_name src from ≡ c → (v : Value)
        → Takes (key.Cost of kind from to) v
        → value_of all (key.Cost of kind from to) ≡ Some v
        → map {B = Name × Data} (λ (dst : Name). (dst, told_of (cost_of all net metric src dst)))
        (destinations_of rows net metric src)
        ≡ map {B = Name × Data} (λ (c : Cost). (c.destination, told_of (Some c.amount)))
        (costs_within rows (span.CostsFrom net metric src))
        → map {B = Name × Data} (λ (dst : Name). (dst, told_of (cost_of all net metric src dst)))
        (destinations_of ((key.Cost of kind from to, v) ∷ rows) net metric src)
        ≡ map {B = Name × Data} (λ (c : Cost). (c.destination, told_of (Some c.amount)))
        (costs_within ((key.Cost of kind from to, v) ∷ rows) (span.CostsFrom net metric src))
    by true true true e f h (value.Num n) takes is below =
        let here : value_of all (key.Cost net metric src to) ≡ Some (value.Num n) =
        ap (value_of all) (λ i. key.Cost (one_name net of e i) (one_name metric kind f i) (one_name src from h i) to)
        ∙ is in
        let cost : told_of (cost_of all net metric src to) ≡ told_of (Some n) = ap (λ o. told_of (number_at o)) here in
        rw (e, f, h) (rw cost (ap (λ (more : List (Name × Data)). (to, told_of (Some n)) ∷ more) below))
    by true true true e f h value.Unit takes is below = absurd takes
    by true true true e f h (value.Text text) takes is below = absurd takes
    by true true true e f h (value.Names names) takes is below = absurd takes
    by true true false e f h v takes is below = rw (e, f, h) below
    by true false c e f h v takes is below = rw (e, f) below
    by false b c e f h v takes is below = rw e below
costs_told told_of net metric src all (_ ∷ rows) told taken = costs_told told_of net metric src all rows told.1 taken.1
