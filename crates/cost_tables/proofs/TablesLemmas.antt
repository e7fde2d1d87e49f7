-- The tables of all metrics that are declared tell the costs of rows.
use Rattle.std.proofs.Common.{◌≡◌, refl, ap, sym, ◌∙◌, arith, append-nil}
use Rattle.std.proofs.lemmas.Bool.{and_parts, true≢false}
use Rattle.std.specs.Prelude.{Bool, true, false, ◌||◌, cond, List, [], ◌∷◌, ◌++◌, Option, None, Some, is_some}
use Rattle.std.specs.Prelude.{option_and_then, unwrap_or}
use Rattle.std.specs.BTreeMap.{is_at}
use Rattle.std.specs.List.{AllByRecursion, filter_map, list_any}
use Rattle.std.specs.Map.{keys_of, lookup}
use Rattle.alto_rows.specs.declared.key.Key.TheVariants as key
use Rattle.alto_rows.specs.declared.resource.Resource.{Resource}
use Rattle.alto_rows.specs.declared.resource.Resource.TheVariants as resource
use Rattle.alto_rows.specs.declared.value.Value.{Value}
use Rattle.alto_rows.specs.Costs.{cost_of, number_at}
use Rattle.alto_rows.specs.Good.{AreGood}
use Rattle.alto_rows.specs.Order.{resource_cmp, same_name}
use Rattle.alto_rows.specs.Rows.{Rows, has_row, value_of}
use Rattle.alto_rows.specs.Versions.{resources_of}
use Rattle.alto_rows.proofs.ResourceLemmas.{resources_found}
use Rattle.alto_rows.proofs.TouchesLemmas.{one_name, same_resource_ties}
use Rattle.cost_tables.specs.Tables.{AreCostsOf, Name, Table, Tables, TellsCosts, cost_in, cost_told, costs_of, is_of}

-- the network and the metric of a cost map
abbrev pub metric_of : Resource → Option (Name × Name)
metric_of (resource.Cost net metric) = Some (net, metric)
metric_of _ = None

-- each table tells the costs of its metric
abbrev pub AreTold : Rows → Tables → Type 0
AreTold rows tables = AllByRecursion (λ of. TellsCosts rows of.0.0 of.0.1 of.1) tables

-- tables made so far, each of its metric, and with the metrics of the resources that are left they are of all
pub record AreMade (rows : Rows) (left all : List Resource) (tables : Tables) : Type 0 where
  pub told : AreTold rows tables
  pub named : keys_of tables ++ filter_map metric_of left ≡ filter_map metric_of all

-- ---- steps of the loops

pub none_made : (rows : Rows) (all : List Resource) → AreMade rows all all []
none_made rows all = record { told = tt; named = refl }

-- a table is made for the metric of a cost map
pub one_made : (rows : Rows) (of : Resource) (left all : List Resource) (tables more : Tables)
    (one : (Name × Name) × Table) (net metric : Name) (table : Table)
    → of ≡ resource.Cost net metric → AreMade rows (of ∷ left) all tables → TellsCosts rows net metric table
    → more ≡ tables ++ one ∷ [] → one ≡ ((net, metric), table) → AreMade rows left all more
one_made rows of left all tables more one net metric table is made tells pushed entry =
    rw (pushed, entry)
    (record {
      told = told_too tables made.told;
      named = named_too tables ∙ (ap (λ (of : Resource). keys_of tables ++ filter_map metric_of (of ∷ left))
          (sym is) ∙ made.named);
    })
  where
    told_too : (tables : Tables) → AreTold rows tables → AreTold rows (tables ++ ((net, metric), table) ∷ [])
    told_too [] told = (tells, tt)
    told_too (of ∷ tables) told = (told.0, told_too tables told.1)

    named_too : (tables : Tables) → keys_of (tables ++ ((net, metric), table) ∷ []) ++ filter_map metric_of left
        ≡ keys_of tables ++ ((net, metric) ∷ filter_map metric_of left)
    named_too [] = refl
    named_too (of ∷ tables) = ap (λ (more : List (Name × Name)). of.0 ∷ more) (named_too tables)

-- none is made for another resource
pub other_passed : (rows : Rows) (of : Resource) (left all : List Resource) (tables : Tables)
    → ((net metric : Name) → of ≡ resource.Cost net metric → ⊥) → AreMade rows (of ∷ left) all tables
    → AreMade rows left all tables
other_passed rows (resource.Net net) left all tables other made = record { told = made.told; named = made.named }
other_passed rows (resource.Cost net metric) left all tables other made = absurd (other net metric refl)
other_passed rows (resource.Prop net) left all tables other made = record { told = made.told; named = made.named }

-- ---- what is found

-- a table is found where its metric is among the names
found_named : (test : Name × Name → Bool) (tables : Tables)
    → is_some (lookup test tables) ≡ list_any test (keys_of tables)
found_named test [] = refl
found_named test (of ∷ tables) = by (test of.0) (found_named test tables)
  where
    by : (b : Bool) → is_some (lookup test tables) ≡ list_any test (keys_of tables)
        → is_some (cond b (Some of.1) (lookup test tables)) ≡ (b || list_any test (keys_of tables))
    by true more = refl
    by false more = more

-- the cost of a pair in a metric
pub told_in : (tables : Tables) (net metric src dst : Name)
    → cost_told (costs_of tables net metric) src dst ≡ cost_in tables net metric src dst
told_in tables net metric src dst = by (lookup (is_of net metric) tables)
  where
    by : (found : Option Table) → cost_told (unwrap_or found []) src dst
        ≡ option_and_then (λ table. cost_told table src dst) found
    by (Some table) = refl
    by None = refl

-- a declared metric is among the names of the declared cost maps
named_declared : (net metric : Name) (all : List Resource)
    → list_any (is_of net metric) (filter_map metric_of all)
    ≡ list_any (is_at (resource_cmp (resource.Cost net metric))) all
named_declared net metric [] = refl
named_declared net metric (resource.Net of ∷ all) =
    rw (← same_resource_ties (resource.Cost net metric) (resource.Net of)) (named_declared net metric all)
named_declared net metric (resource.Cost of kind ∷ all) =
    rw (← same_resource_ties (resource.Cost net metric) (resource.Cost of kind))
    (ap (λ (more : Bool). is_of net metric (of, kind) || more) (named_declared net metric all))
named_declared net metric (resource.Prop of ∷ all) =
    rw (← same_resource_ties (resource.Cost net metric) (resource.Prop of)) (named_declared net metric all)

-- a table that is found tells the costs of the metric
found_tells : (rows : Rows) (net metric : Name) (tables : Tables) (table : Table) → AreTold rows tables
    → lookup (is_of net metric) tables ≡ Some table → TellsCosts rows net metric table
found_tells rows net metric [] table told found src dst = cc
found_tells rows net metric (((of, kind), first) ∷ tables) table told found src dst =
    by (is_of net metric (of, kind)) refl found (λ later. found_tells rows net metric tables table told.1 later src dst)
  where
    by : (b : Bool) → is_of net metric (of, kind) ≡ b
        → cond b (Some first) (lookup (is_of net metric) tables) ≡ Some table
        → (lookup (is_of net metric) tables ≡ Some table → cost_told table src dst ≡ cost_of rows net metric src dst)
        → cost_told table src dst ≡ cost_of rows net metric src dst
    by true e found later =
        let both = and_parts (same_name net of) (same_name metric kind) e in
        let nets : net ≡ of = one_name net of both.0 in
        let kinds : metric ≡ kind = one_name metric kind both.1 in
        let same : first ≡ table = cc in
        rw (nets, kinds, ← same) (told.0 src dst)
    by false e found later = later found

-- a metric that has a cost is declared
cost_declares : (rows : Rows) (net metric src dst : Name) (v : Value) → AreGood rows
    → value_of rows (key.Cost net metric src dst) ≡ Some v → has_row rows (key.Metric net metric) ≡ true
cost_declares rows net metric src dst v good e =
    good.declared (key.Cost net metric src dst) v e 1 (key.Metric net metric) (omega arith)

-- tables of all declared metrics tell the costs of good rows
pub made_costs : (rows : Rows) (left all : List Resource) (tables : Tables) → AreGood rows → left ≡ []
    → all ≡ resources_of rows
    → AreMade rows left all tables → AreCostsOf rows tables
made_costs rows left all tables good none all_declared made net metric src dst =
    by (lookup (is_of net metric) tables) refl
  where
    names : keys_of tables ≡ filter_map metric_of (resources_of rows)
    names =
        sym (append-nil (keys_of tables))
        ∙ (ap (λ left. keys_of tables ++ filter_map metric_of left) (sym none)
        ∙ (made.named ∙ ap (filter_map metric_of) all_declared))

    stands : is_some (lookup (is_of net metric) tables) ≡ has_row rows (key.Metric net metric)
    stands =
        found_named (is_of net metric) tables
        ∙ (ap (list_any (is_of net metric)) names
        ∙ (named_declared net metric (resources_of rows) ∙ resources_found rows (resource.Cost net metric)))

    no_cost : (value : Option Value) → value_of rows (key.Cost net metric src dst) ≡ value
        → has_row rows (key.Metric net metric) ≡ false → number_at value ≡ None
    no_cost None e absent = refl
    no_cost (Some v) e absent = absurd (true≢false (sym (cost_declares rows net metric src dst v good e) ∙ absent))

    by : (found : Option Table) → lookup (is_of net metric) tables ≡ found
        → option_and_then (λ table. cost_told table src dst) found ≡ cost_of rows net metric src dst
    by (Some table) e = found_tells rows net metric tables table made.told e src dst
    by None e = sym (no_cost (value_of rows (key.Cost net metric src dst)) refl (sym stands ∙ ap is_some e))
