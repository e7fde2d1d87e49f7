-- A pair that has a cost: both PIDs are declared, and the walk over the source's rows comes to the destination.
use Rattle.std.proofs.Common.{◌≡◌, ◌∙◌, ℕ, refl, ap, sym}
use Rattle.std.proofs.lemmas.Bool.{and_parts}
use Rattle.std.proofs.lemmas.List.Elements.{recursion_from_All}
use Rattle.std.proofs.lemmas.List.Folds.{list_any-append}
use Rattle.std.specs.Prelude.{Bool, true, false, ◌&&◌, ◌||◌, List, [], ◌∷◌, Option, Some, None, is_some}
use Rattle.std.specs.BTreeMap.{is_at}
use Rattle.std.specs.List.{list_any}
use Rattle.std.specs.Map.{lookup}
use Rattle.alto_rows.specs.declared.key.Key.{Key}
use Rattle.alto_rows.specs.declared.key.Key.TheVariants as key
use Rattle.alto_rows.specs.declared.value.Value.{Value}
use Rattle.alto_rows.specs.Good.{AreGood, needs}
use Rattle.alto_rows.specs.Order.{key_cmp, name_cmp, same_name}
use Rattle.alto_rows.specs.Rows.{Rows, has_row, value_of}
use Rattle.alto_rows.proofs.TouchesLemmas.{both_ties, same_name_ties}
use Rattle.alto_maps.specs.Shape.{Name}
use Rattle.net_docs.specs.NetworkMap.{pids_of}
use Rattle.net_docs.proofs.StandsLemmas.{stands_where}
use Rattle.alto_rows.specs.Costs.{cost_of, number_at}
use Rattle.cost_docs.specs.CostMap.{destinations_of}
use Rattle.cost_filters.specs.declared.types.CostType.{CostType}
use Rattle.cost_filters.specs.Ask.{CostAskData}
use Rattle.cost_filters.specs.Columns.{columns_of, reached}
use Rattle.cost_filters.specs.Filter.{costs_of, is_pair, tested_costs, typed_cost}
use Rattle.cost_filters.specs.Holds.{one_holds}

-- ---- which destinations the rows of a source hold

-- the key of a pair's cost
abbrev is_cost_key : Name → Name → Name → Name → Key → Bool
is_cost_key net metric src dst (key.Cost of kind from to) =
    same_name net of && (same_name metric kind && (same_name src from && same_name dst to))
is_cost_key net metric src dst _ = false

-- it is the one that is looked for
cost_key : (net metric src dst : Name) (at : Key)
    → is_at (key_cmp (key.Cost net metric src dst)) at ≡ is_cost_key net metric src dst at
unfolding key_cmp
cost_key net metric src dst (key.Cost of kind from to) =
    both_ties (name_cmp net of) _
    ∙ rw (
      both_ties (name_cmp metric kind) _,
      both_ties (name_cmp src from) (name_cmp dst to),
      same_name_ties net of,
      same_name_ties metric kind,
      same_name_ties src from,
      same_name_ties dst to,
    ) refl
cost_key net metric src dst _ = refl

-- a destination is among those of a source where the pair has a row
reached_where : (net metric src dst : Name) (rows : Rows)
    → list_any (same_name dst) (destinations_of rows net metric src) ≡ has_row rows (key.Cost net metric src dst)
reached_where net metric src dst rows =
    among rows ∙ ap (λ test. is_some (lookup test rows)) (λ i at. sym (cost_key net metric src dst at) i)
  where
    among : (rows : Rows) → list_any (same_name dst) (destinations_of rows net metric src)
        ≡ is_some (lookup (is_cost_key net metric src dst) rows)
    among [] = refl
    among ((key.Cost of kind from to, v) ∷ rows) =
        by (same_name net of) (same_name metric kind) (same_name src from) (same_name dst to) refl refl refl
        refl (among rows)
      where
        by : (a b c d : Bool) → same_name net of ≡ a → same_name metric kind ≡ b → same_name src from ≡ c
            → same_name dst to ≡ d
            → list_any (same_name dst) (destinations_of rows net metric src)
            ≡ is_some (lookup (is_cost_key net metric src dst) rows)
            → list_any (same_name dst) (destinations_of ((key.Cost of kind from to, v) ∷ rows) net metric src)
            ≡ is_some (lookup (is_cost_key net metric src dst) ((key.Cost of kind from to, v) ∷ rows))
        by true true true true e f g h below = rw (e, f, g, h) refl
        by true true true false e f g h below = rw (e, f, g, h) below
        by true true false d e f g h below = rw (e, f, g) below
        by true false c d e f g h below = rw (e, f) below
        by false b c d e f g h below = rw e below
    among (_ ∷ rows) = among rows

-- ---- a pair with a cost

-- a cost has its row
cost_row : (found : Option Value) → is_some (number_at found) ≡ true → is_some found ≡ true
cost_row (Some v) h = refl
cost_row None h = cc

-- a cost by a type is one in its metric
in_metric : (rows : Rows) (net src dst : Name) (type : CostType) → is_some (typed_cost rows net src dst type) ≡ true
    → is_some (cost_of rows net type.metric src dst) ≡ true
in_metric rows net src dst type h = by type.ordinal refl (cost_of rows net type.metric src dst) refl
  where
    by : (ordinal : Bool) → type.ordinal ≡ ordinal → (found : Option ℕ) → cost_of rows net type.metric src dst ≡ found
        → is_some (cost_of rows net type.metric src dst) ≡ true
    by true o (Some cost) e = rw e refl
    by true o None e = let none : false ≡ true = rw (o, e) at h in cc
    by false o (Some cost) e = rw e refl
    by false o None e = let none : false ≡ true = rw (o, e) at h in cc

-- both PIDs of a pair are declared
pub record Stand (rows : Rows) (net src dst : Name) : Type 0 where
  pub source : list_any (same_name src) (pids_of rows net) ≡ true
  pub destination : list_any (same_name dst) (pids_of rows net) ≡ true

row_stands : (rows : Rows) (net metric src dst : Name) → AreGood rows
    → has_row rows (key.Cost net metric src dst) ≡ true → Stand rows net src dst
row_stands rows net metric src dst good has = by (value_of rows (key.Cost net metric src dst)) refl
  where
    by : (found : Option Value) → value_of rows (key.Cost net metric src dst) ≡ found → Stand rows net src dst
    by None e = absurd (let none : false ≡ true = sym (ap is_some e) ∙ has in cc)
    by (Some v) e =
        let all = recursion_from_All (λ (need : Key). has_row rows need ≡ true) (needs (key.Cost net metric src dst) v)
        (good.declared (key.Cost net metric src dst) v e) in
        record { source = stands_where net src rows ∙ all.1.1.0; destination = stands_where net dst rows ∙ all.1.1.1.0 }

-- so are those of one with a cost by some type
types_stand : (rows : Rows) (net src dst : Name) (types : List CostType) → AreGood rows
    → list_any (λ cost. is_some cost) (costs_of rows net types src dst) ≡ true → Stand rows net src dst
types_stand rows net src dst [] good h = cc
types_stand rows net src dst (type ∷ types) good h =
    by (is_some (typed_cost rows net src dst type)) refl (types_stand rows net src dst types good)
  where
    by : (b : Bool) → is_some (typed_cost rows net src dst type) ≡ b
        → (list_any (λ cost. is_some cost) (costs_of rows net types src dst) ≡ true → Stand rows net src dst)
        → Stand rows net src dst
    by true e below =
        row_stands rows net type.metric src dst good
        (cost_row (value_of rows (key.Cost net type.metric src dst)) (in_metric rows net src dst type e))
    by false e below = below (rw e at h)

pub pair_stands : (rows : Rows) (net : Name) (ask : CostAskData) (src dst : Name) → AreGood rows
    → is_pair rows net ask src dst ≡ true → Stand rows net src dst
pair_stands rows net ask src dst good h =
    types_stand rows net src dst ask.types good
    (and_parts (list_any (λ cost. is_some cost) (costs_of rows net ask.types src dst))
    (one_holds (tested_costs rows net ask.tested src dst) ask.alternatives) h).0

-- the walk over the columns comes to its destination
types_reach : (rows : Rows) (net src dst : Name) (types : List CostType)
    → list_any (λ cost. is_some cost) (costs_of rows net types src dst) ≡ true
    → list_any (same_name dst) (reached rows net (columns_of rows net types) src) ≡ true
types_reach rows net src dst [] h = cc
types_reach rows net src dst (type ∷ types) h =
    list_any-append (same_name dst) (destinations_of rows net type.metric src)
    (reached rows net (columns_of rows net types) src)
    ∙ by (is_some (typed_cost rows net src dst type)) refl (types_reach rows net src dst types)
  where
    or_true : (b : Bool) → (b || true) ≡ true
    or_true true = refl
    or_true false = refl

    by : (b : Bool) → is_some (typed_cost rows net src dst type) ≡ b
        → (list_any (λ cost. is_some cost) (costs_of rows net types src dst) ≡ true
        → list_any (same_name dst) (reached rows net (columns_of rows net types) src) ≡ true)
        → (list_any (same_name dst) (destinations_of rows net type.metric src) || list_any (same_name dst)
        (reached rows net (columns_of rows net types) src)) ≡ true
    by true e below =
        let here : list_any (same_name dst) (destinations_of rows net type.metric src) ≡ true =
        reached_where net type.metric src dst rows
        ∙ cost_row (value_of rows (key.Cost net type.metric src dst)) (in_metric rows net src dst type e) in
        rw here refl
    by false e below =
        let later : list_any (same_name dst) (reached rows net (columns_of rows net types) src) ≡ true =
        below (rw e at h) in
        rw later (or_true (list_any (same_name dst) (destinations_of rows net type.metric src)))

pub pair_reached : (rows : Rows) (net : Name) (ask : CostAskData) (src dst : Name) → is_pair rows net ask src dst ≡ true
    → list_any (same_name dst) (reached rows net (columns_of rows net ask.types) src) ≡ true
pair_reached rows net ask src dst h =
    types_reach rows net src dst ask.types
    (and_parts (list_any (λ cost. is_some cost) (costs_of rows net ask.types src dst))
    (one_holds (tested_costs rows net ask.tested src dst) ask.alternatives) h).0
