-- The costs of a metric stand by source, then by destination.
use Rattle.std.proofs.Common.{◌≡◌, refl, sym, ◌∙◌}
use Rattle.std.proofs.lemmas.Cmp.{nat_list_cmp_total, tied_itself}
use Rattle.std.specs.Prelude.{Bool, true, false, List, [], ◌∷◌}
use Rattle.std.specs.List.{AllByRecursion}
use Rattle.std.specs.List.Sorted.{IsStrictlySortedBy}
use Rattle.std.specs.Ordering.{is_gt, ordering_then}
use Rattle.std.specs.declared.cmp.Ordering.{Ordering}
use Rattle.std.specs.declared.cmp.Ordering.TheVariants.{Less, Equal, Greater}
use Rattle.alto_rows.specs.declared.key.Key.TheVariants as key
use Rattle.alto_rows.specs.declared.span.Span.TheVariants as span
use Rattle.alto_rows.specs.declared.value.Value.{Value}
use Rattle.alto_rows.specs.declared.value.Value.TheVariants as value
use Rattle.alto_rows.specs.Order.{key_cmp, name_cmp, same_name}
use Rattle.alto_rows.specs.Rows.{Rows, AreSorted}
use Rattle.alto_rows.proofs.RowsLemmas.{ArePast, past_first, sorted_rest}
use Rattle.alto_rows.proofs.TouchesLemmas.{one_name}
use Rattle.alto_maps.specs.Shape.{Name}
use Rattle.cost_docs.specs.declared.costs.Cost.{Cost}
use Rattle.cost_docs.specs.CostMap.{destinations_of}
use Rattle.cost_docs.specs.Costs.{costs_within}

-- no source of these costs is before this one
abbrev pub NoneBefore : Name → List Cost → Type 0
NoneBefore src costs = AllByRecursion (λ (c : Cost). is_gt (name_cmp src c.source) ≡ false) costs

-- no cost's source is before that of an earlier cost
abbrev pub StandBySource : List Cost → Type 0
StandBySource [] = Unit {0}
StandBySource (c ∷ costs) = NoneBefore c.source costs × StandBySource costs

-- of two costs of a metric the keys stand as the sources
by_source : (net metric src from dst to : Name)
    → key_cmp (key.Cost net metric src dst) (key.Cost net metric from to) ≡ Less → is_gt (name_cmp src from) ≡ false
unfolding key_cmp
by_source net metric src from dst to less =
    by (name_cmp src from) refl (rw (tied_itself nat_list_cmp_total net, tied_itself nat_list_cmp_total metric) at less)
  where
    by : (o : Ordering) → name_cmp src from ≡ o → ordering_then (name_cmp src from) (name_cmp dst to) ≡ Less
        → is_gt (name_cmp src from) ≡ false
    by Less e h = rw e refl
    by Equal e h = rw e refl
    by Greater e h = let both : ordering_then Greater (name_cmp dst to) ≡ Less = rw e at h in cc

-- and of two costs from a source as the destinations
by_destination : (net metric src dst to : Name)
    → key_cmp (key.Cost net metric src dst) (key.Cost net metric src to) ≡ name_cmp dst to
unfolding key_cmp
by_destination net metric src dst to =
    rw (
      tied_itself nat_list_cmp_total net,
      tied_itself nat_list_cmp_total metric,
      tied_itself nat_list_cmp_total src,
    ) refl

-- so no cost of rows behind one's key is from an earlier source
none_before : (net metric src dst : Name) (rows : Rows) → ArePast (key.Cost net metric src dst) rows
    → NoneBefore src (costs_within rows (span.CostsIn net metric))
none_before net metric src dst [] past = tt
none_before net metric src dst ((key.Cost of kind from to, v) ∷ rows) past =
    by (same_name net of) (same_name metric kind) refl refl v (none_before net metric src dst rows past.1)
  where
    by : (a b : Bool) → same_name net of ≡ a → same_name metric kind ≡ b → (v : Value)
        → NoneBefore src (costs_within rows (span.CostsIn net metric))
        → NoneBefore src (costs_within ((key.Cost of kind from to, v) ∷ rows) (span.CostsIn net metric))
    by true true e f (value.Num n) below =
        rw (e, f) (
          by_source net metric src from dst to (rw (← one_name net of e, ← one_name metric kind f) at past.0),
          below,
        )
    by true true e f value.Unit below = rw (e, f) below
    by true true e f (value.Text text) below = rw (e, f) below
    by true true e f (value.Names names) below = rw (e, f) below
    by true false e f v below = rw (e, f) below
    by false b e f v below = rw e below
none_before net metric src dst (_ ∷ rows) past = none_before net metric src dst rows past.1

-- the costs of a metric stand by source
pub stand_by_source : (net metric : Name) (rows : Rows) → AreSorted rows
    → StandBySource (costs_within rows (span.CostsIn net metric))
stand_by_source net metric [] sorted = tt
stand_by_source net metric ((key.Cost of kind from to, v) ∷ rows) sorted =
    by (same_name net of) (same_name metric kind) refl refl v (past_first (key.Cost of kind from to, v) rows sorted)
    (stand_by_source net metric rows (sorted_rest (key.Cost of kind from to, v) rows sorted))
  where
    by : (a b : Bool) → same_name net of ≡ a → same_name metric kind ≡ b → (v : Value)
        → ArePast (key.Cost of kind from to) rows
        → StandBySource (costs_within rows (span.CostsIn net metric))
        → StandBySource (costs_within ((key.Cost of kind from to, v) ∷ rows) (span.CostsIn net metric))
    by true true e f (value.Num n) past below =
        rw (e, f) (
          none_before net metric from to rows (rw (← one_name net of e, ← one_name metric kind f) at past),
          below,
        )
    by true true e f value.Unit past below = rw (e, f) below
    by true true e f (value.Text text) past below = rw (e, f) below
    by true true e f (value.Names names) past below = rw (e, f) below
    by true false e f v past below = rw (e, f) below
    by false b e f v past below = rw e below
stand_by_source net metric (first ∷ rows) sorted = stand_by_source net metric rows (sorted_rest first rows sorted)

-- the destinations of rows behind a cost's key are behind its destination
destinations_behind : (net metric src dst : Name) (rows : Rows) → ArePast (key.Cost net metric src dst) rows
    → AllByRecursion (λ to. name_cmp dst to ≡ Less) (destinations_of rows net metric src)
destinations_behind net metric src dst [] past = tt
destinations_behind net metric src dst ((key.Cost of kind from to, v) ∷ rows) past =
    by (same_name net of) (same_name metric kind) (same_name src from) refl refl
    refl (destinations_behind net metric src dst rows past.1)
  where
    by : (a b c : Bool) → same_name net of ≡ a → same_name metric kind ≡ b → same_name src from ≡ c
        → AllByRecursion (λ to. name_cmp dst to ≡ Less) (destinations_of rows net metric src)
        → AllByRecursion (λ to. name_cmp dst to ≡ Less)
        (destinations_of ((key.Cost of kind from to, v) ∷ rows) net metric src)
    by true true true e f h below =
        let less : key_cmp (key.Cost net metric src dst) (key.Cost net metric src to) ≡ Less =
        rw (← one_name net of e, ← one_name metric kind f, ← one_name src from h) at past.0 in
        rw (e, f, h) (sym (by_destination net metric src dst to) ∙ less, below)
    by true true false e f h below = rw (e, f, h) below
    by true false c e f h below = rw (e, f) below
    by false b c e f h below = rw e below
destinations_behind net metric src dst (_ ∷ rows) past = destinations_behind net metric src dst rows past.1

-- the destinations of a source rise
pub destinations_rise : (net metric src : Name) (rows : Rows) → AreSorted rows
    → IsStrictlySortedBy name_cmp (destinations_of rows net metric src)
unfolding IsStrictlySortedBy
destinations_rise net metric src [] sorted = tt
destinations_rise net metric src ((key.Cost of kind from to, v) ∷ rows) sorted =
    by (same_name net of) (same_name metric kind) (same_name src from) refl refl
    refl (past_first (key.Cost of kind from to, v) rows sorted)
    (destinations_rise net metric src rows (sorted_rest (key.Cost of kind from to, v) rows sorted))
  where
    by : (a b c : Bool) → same_name net of ≡ a → same_name metric kind ≡ b → same_name src from ≡ c
        → ArePast (key.Cost of kind from to) rows
        → IsStrictlySortedBy name_cmp (destinations_of rows net metric src)
        → IsStrictlySortedBy name_cmp (destinations_of ((key.Cost of kind from to, v) ∷ rows) net metric src)
    by true true true e f h past below =
        let behind : ArePast (key.Cost net metric src to) rows =
        rw (← one_name net of e, ← one_name metric kind f, ← one_name src from h) at past in
        rw (e, f, h) (destinations_behind net metric src to rows behind, below)
    by true true false e f h past below = rw (e, f, h) below
    by true false c e f h past below = rw (e, f) below
    by false b c e f h past below = rw e below
destinations_rise net metric src (first ∷ rows) sorted =
    destinations_rise net metric src rows (sorted_rest first rows sorted)
