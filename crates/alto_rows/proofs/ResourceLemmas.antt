-- The declared resources of sorted rows: they are in order, and are exactly those that are declared.
use Rattle.std.proofs.Common.{◌≡◌, refl, ap, sym, ◌∙◌}
use Rattle.std.proofs.lemmas.List.Folds.{list_any-append}
use Rattle.std.specs.Prelude.{ℕ, Bool, true, false, cond, ◌||◌, List, [], ◌∷◌, ◌++◌, map, Option, Some, is_some}
use Rattle.std.specs.BTreeMap.{is_at}
use Rattle.std.specs.List.{AllByRecursion, list_any, filter_map}
use Rattle.std.specs.List.Sorted.{IsStrictlySortedBy}
use Rattle.std.specs.Ordering.{is_eq, nat_cmp, ordering_then}
use Rattle.std.specs.declared.cmp.Ordering.{Ordering}
use Rattle.std.specs.declared.cmp.Ordering.TheVariants.{Less, Equal, Greater}
use Rattle.alto_rows.specs.declared.key.Key.TheVariants as key
use Rattle.alto_rows.specs.declared.resource.Resource.{Resource}
use Rattle.alto_rows.specs.declared.resource.Resource.TheVariants as resource
use Rattle.alto_rows.specs.declared.value.Value.{Value}
use Rattle.alto_rows.specs.Order.{key_cmp, resource_cmp, resource_kind, resource_fields_cmp, name_cmp}
use Rattle.alto_rows.specs.Rows.{Rows, AreSorted, value_of, has_row}
use Rattle.alto_rows.specs.Versions.{is_declared, nets_of, cost_declared, resources_of}
use Rattle.alto_rows.proofs.RowsLemmas.{ArePast, past_first, sorted_rest}

-- ---- the declared networks and cost maps are in order

-- the networks of rows after a network's are after it
nets_past : (net : List ℕ) (rows : Rows) → ArePast (key.Net net) rows
    → AllByRecursion (λ other. name_cmp net other ≡ Less) (nets_of rows)
unfolding key_cmp
nets_past net [] past = tt
nets_past net ((key.Net other, v) ∷ rows) past = (past.0, nets_past net rows past.1)
nets_past net ((_, v) ∷ rows) past = nets_past net rows past.1

pub nets_sorted : (rows : Rows) → AreSorted rows → IsStrictlySortedBy name_cmp (nets_of rows)
unfolding IsStrictlySortedBy
nets_sorted [] s = tt
nets_sorted ((key.Net net, v) ∷ rows) s =
    (nets_past net rows (past_first (key.Net net, v) rows s), nets_sorted rows (sorted_rest (key.Net net, v) rows s))
nets_sorted ((at, v) ∷ rows) s = nets_sorted rows (sorted_rest (at, v) rows s)

-- the cost maps of rows after a metric's are after it
costs_past : (net metric : List ℕ) (rows : Rows) → ArePast (key.Metric net metric) rows
    → AllByRecursion (λ other. resource_cmp (resource.Cost net metric) other ≡ Less) (filter_map cost_declared rows)
unfolding key_cmp resource_cmp
costs_past net metric [] past = tt
costs_past net metric ((key.Metric other m, v) ∷ rows) past = (past.0, costs_past net metric rows past.1)
costs_past net metric ((_, v) ∷ rows) past = costs_past net metric rows past.1

costs_sorted : (rows : Rows) → AreSorted rows → IsStrictlySortedBy resource_cmp (filter_map cost_declared rows)
unfolding IsStrictlySortedBy
costs_sorted [] s = tt
costs_sorted ((key.Metric net metric, v) ∷ rows) s = (
  costs_past net metric rows (past_first (key.Metric net metric, v) rows s),
  costs_sorted rows (sorted_rest (key.Metric net metric, v) rows s),
)
costs_sorted ((at, v) ∷ rows) s = costs_sorted rows (sorted_rest (at, v) rows s)

-- ---- the declared resources are in order

-- what is in order by the names of networks is in order as network maps
maps_sorted : (nets : List (List ℕ)) → IsStrictlySortedBy name_cmp nets
    → IsStrictlySortedBy resource_cmp (map resource.Net nets)
unfolding IsStrictlySortedBy resource_cmp
maps_sorted [] s = tt
maps_sorted (net ∷ nets) s = (past nets s.0, maps_sorted nets s.1)
  where
    past : (others : List (List ℕ)) → AllByRecursion (λ other. name_cmp net other ≡ Less) others
        → AllByRecursion (λ other. resource_cmp (resource.Net net) other ≡ Less) (map resource.Net others)
    past [] h = tt
    past (other ∷ others) h = (h.0, past others h.1)

-- and as property maps
props_sorted : (nets : List (List ℕ)) → IsStrictlySortedBy name_cmp nets
    → IsStrictlySortedBy resource_cmp (map resource.Prop nets)
unfolding IsStrictlySortedBy resource_cmp
props_sorted [] s = tt
props_sorted (net ∷ nets) s = (past nets s.0, props_sorted nets s.1)
  where
    past : (others : List (List ℕ)) → AllByRecursion (λ other. name_cmp net other ≡ Less) others
        → AllByRecursion (λ other. resource_cmp (resource.Prop net) other ≡ Less) (map resource.Prop others)
    past [] h = tt
    past (other ∷ others) h = (h.0, past others h.1)

-- all resources of a list are of a kind
abbrev pub AreOfKind : ℕ → List Resource → Type 0
AreOfKind kind all = AllByRecursion (λ of. resource_kind of ≡ kind) all

maps_kind : (nets : List (List ℕ)) → AreOfKind 1 (map resource.Net nets)
maps_kind [] = tt
maps_kind (net ∷ nets) = (refl, maps_kind nets)

pub costs_kind : (rows : Rows) → AreOfKind 2 (filter_map cost_declared rows)
costs_kind [] = tt
costs_kind ((key.Metric net metric, v) ∷ rows) = (refl, costs_kind rows)
costs_kind ((_, v) ∷ rows) = costs_kind rows

props_kind : (nets : List (List ℕ)) → AreOfKind 3 (map resource.Prop nets)
props_kind [] = tt
props_kind (net ∷ nets) = (refl, props_kind nets)

-- all of two lists are
all_of_both : (P : Resource → Type 0) (first second : List Resource) → AllByRecursion P first → AllByRecursion P second
    → AllByRecursion P (first ++ second)
all_of_both P [] second f s = s
all_of_both P (of ∷ first) second f s = (f.0, all_of_both P first second f.1 s)

-- a resource is before those of later kinds
kind_before : (of : Resource) (kind : ℕ) (all : List Resource) → nat_cmp (resource_kind of) kind ≡ Less
    → AreOfKind kind all
    → AllByRecursion (λ other. resource_cmp of other ≡ Less) all
unfolding resource_cmp
kind_before of kind [] less h = tt
kind_before of kind (other ∷ all) less h =
    (rw h.0 (rw less refl), kind_before of kind all less h.1)

-- two lists in order are in order together where each of the first is before all of the second
sorted_both : (first second : List Resource) → IsStrictlySortedBy resource_cmp first
    → IsStrictlySortedBy resource_cmp second
    → AllByRecursion (λ of. AllByRecursion (λ other. resource_cmp of other ≡ Less) second) first
    → IsStrictlySortedBy resource_cmp (first ++ second)
unfolding IsStrictlySortedBy
sorted_both [] second f s before = s
sorted_both (of ∷ first) second f s before = (
  all_of_both (λ other. resource_cmp of other ≡ Less) first second f.0 before.0,
  sorted_both first second f.1 s before.1,
)

pub resources_sorted : (rows : Rows) → AreSorted rows → IsStrictlySortedBy resource_cmp (resources_of rows)
resources_sorted rows s =
    sorted_both (map resource.Net (nets_of rows)) (filter_map cost_declared rows ++ map resource.Prop (nets_of rows))
    (maps_sorted (nets_of rows) (nets_sorted rows s))
    (sorted_both (filter_map cost_declared rows) (map resource.Prop (nets_of rows)) (costs_sorted rows s)
    (props_sorted (nets_of rows) (nets_sorted rows s))
    (costs_before (filter_map cost_declared rows) (costs_kind rows)))
    (maps_before (map resource.Net (nets_of rows)) (maps_kind (nets_of rows)))
  where
    costs_before : (all : List Resource) → AreOfKind 2 all
        → AllByRecursion (λ of. AllByRecursion (λ other. resource_cmp of other ≡ Less)
        (map resource.Prop (nets_of rows))) all
    costs_before [] h = tt
    costs_before (of ∷ all) h = (
      kind_before of 3 (map resource.Prop (nets_of rows)) (rw h.0 refl)
          (props_kind (nets_of rows)),
      costs_before all h.1,
    )

    maps_before : (all : List Resource) → AreOfKind 1 all
        → AllByRecursion (λ of. AllByRecursion (λ other. resource_cmp of other ≡ Less)
        (filter_map cost_declared rows ++ map resource.Prop (nets_of rows))) all
    maps_before [] h = tt
    maps_before (of ∷ all) h = (
      all_of_both (λ other. resource_cmp of other ≡ Less) (filter_map cost_declared rows)
          (map resource.Prop (nets_of rows))
          (kind_before of 2 (filter_map cost_declared rows) (rw h.0 refl) (costs_kind rows))
          (kind_before of 3 (map resource.Prop (nets_of rows)) (rw h.0 refl) (props_kind (nets_of rows))),
      maps_before all h.1,
    )

-- ---- they are exactly those that are declared

one_or_later : (b : Bool) (v : Value) (later : Option Value) → is_some (cond b (Some v) later) ≡ (b || is_some later)
one_or_later true v later = refl
one_or_later false v later = refl

nets_found : (net : List ℕ) (rows : Rows) → list_any (is_at (name_cmp net)) (nets_of rows) ≡ has_row rows (key.Net net)
unfolding key_cmp
nets_found net [] = refl
nets_found net ((key.Net other, v) ∷ rows) =
    rw (nets_found net rows) (sym (one_or_later (is_eq (name_cmp net other)) v (value_of rows (key.Net net))))
nets_found net ((_, v) ∷ rows) = nets_found net rows

-- the cost maps that rows declare
pub costs_found : (net metric : List ℕ) (rows : Rows)
    → list_any (is_at (resource_cmp (resource.Cost net metric))) (filter_map cost_declared rows)
    ≡ has_row rows (key.Metric net metric)
unfolding key_cmp resource_cmp
costs_found net metric [] = refl
costs_found net metric ((key.Metric other m, v) ∷ rows) =
    rw (costs_found net metric rows)
    (sym (one_or_later (is_eq (ordering_then (name_cmp net other) (name_cmp metric m)))
    v (value_of rows (key.Metric net metric))))
costs_found net metric ((_, v) ∷ rows) = costs_found net metric rows

map_found : (net : List ℕ) (nets : List (List ℕ))
    → list_any (is_at (resource_cmp (resource.Net net))) (map resource.Net nets) ≡ list_any (is_at (name_cmp net)) nets
unfolding resource_cmp
map_found net [] = refl
map_found net (other ∷ nets) = ap (λ b. is_eq (name_cmp net other) || b) (map_found net nets)

prop_found : (net : List ℕ) (nets : List (List ℕ))
    → list_any (is_at (resource_cmp (resource.Prop net))) (map resource.Prop nets)
    ≡ list_any (is_at (name_cmp net)) nets
unfolding resource_cmp
prop_found net [] = refl
prop_found net (other ∷ nets) = ap (λ b. is_eq (name_cmp net other) || b) (prop_found net nets)

-- kinds that differ tell resources apart
kinds_differ : (o p : Ordering) → is_eq o ≡ false → is_eq (ordering_then o p) ≡ false
kinds_differ Less p h = refl
kinds_differ Equal p h = cc
kinds_differ Greater p h = refl

-- a resource isn't among those of another kind
pub kind_apart : (of : Resource) (kind : ℕ) (all : List Resource) → is_eq (nat_cmp (resource_kind of) kind) ≡ false
    → AreOfKind kind all
    → list_any (is_at (resource_cmp of)) all ≡ false
unfolding resource_cmp
kind_apart of kind [] apart h = refl
kind_apart of kind (other ∷ all) apart h =
    rw (kinds_differ (nat_cmp (resource_kind of) (resource_kind other)) (resource_fields_cmp of other) (rw h.0 apart))
    (kind_apart of kind all apart h.1)

pub or_false : (b : Bool) → (b || false) ≡ b
or_false true = refl
or_false false = refl

pub or_true : (b : Bool) → (b || true) ≡ true
or_true true = refl
or_true false = refl

-- the declared resources of which one is a resource
among : (rows : Rows) (of : Resource)
    → list_any (is_at (resource_cmp of)) (resources_of rows)
    ≡ (list_any (is_at (resource_cmp of)) (map resource.Net (nets_of rows))
    || (list_any (is_at (resource_cmp of)) (filter_map cost_declared rows) || list_any (is_at (resource_cmp of))
    (map resource.Prop (nets_of rows))))
among rows of =
    list_any-append (is_at (resource_cmp of)) (map resource.Net (nets_of rows))
    (filter_map cost_declared rows ++ map resource.Prop (nets_of rows))
    ∙ ap (λ b. list_any (is_at (resource_cmp of)) (map resource.Net (nets_of rows)) || b)
    (list_any-append (is_at (resource_cmp of)) (filter_map cost_declared rows) (map resource.Prop (nets_of rows)))

pub resources_found : (rows : Rows) (of : Resource)
    → list_any (is_at (resource_cmp of)) (resources_of rows) ≡ is_declared rows of
resources_found rows (resource.Net net) =
    among rows (resource.Net net)
    ∙ rw (
      map_found net (nets_of rows),
      kind_apart (resource.Net net) 2 (filter_map cost_declared rows) refl (costs_kind rows),
      kind_apart (resource.Net net) 3 (map resource.Prop (nets_of rows)) refl (props_kind (nets_of rows)),
    )
    (or_false (list_any (is_at (name_cmp net)) (nets_of rows)))
    ∙ nets_found net rows
resources_found rows (resource.Cost net metric) =
    among rows (resource.Cost net metric)
    ∙ rw (
      kind_apart (resource.Cost net metric) 1 (map resource.Net (nets_of rows)) refl (maps_kind (nets_of rows)),
      kind_apart (resource.Cost net metric) 3 (map resource.Prop (nets_of rows)) refl (props_kind (nets_of rows)),
    )
    (or_false (list_any (is_at (resource_cmp (resource.Cost net metric))) (filter_map cost_declared rows)))
    ∙ costs_found net metric rows
resources_found rows (resource.Prop net) =
    among rows (resource.Prop net)
    ∙ rw (
      kind_apart (resource.Prop net) 1 (map resource.Net (nets_of rows)) refl (maps_kind (nets_of rows)),
      kind_apart (resource.Prop net) 2 (filter_map cost_declared rows) refl (costs_kind rows),
      prop_found net (nets_of rows),
    ) refl
    ∙ nets_found net rows
