-- The declared resources of rows, as a walk over the networks and their metrics comes by them.
use Rattle.std.proofs.Common.{◌≡◌, refl, ap, sym, ◌∙◌}
use Rattle.std.proofs.lemmas.List.{append-nil}
use Rattle.std.proofs.lemmas.List.Elements.{filter-append}
use Rattle.std.proofs.lemmas.List.Folds.{list_any-append}
use Rattle.std.proofs.lemmas.List.Kept.{IsStrictlySortedBy-filter}
use Rattle.std.specs.Prelude.{ℕ, Bool, true, false, cond, ◌&&◌, ◌||◌, List, [], ◌∷◌, ◌++◌, map, filter, Option, Some}
use Rattle.std.specs.Prelude.{None, is_some}
use Rattle.std.specs.List.{AllByRecursion, filter_map, flat_map, list_any}
use Rattle.std.specs.List.Sorted.{IsStrictlySortedBy}
use Rattle.std.specs.Map.{keys_of}
use Rattle.std.specs.Ordering.{is_eq}
use Rattle.std.specs.BTreeMap.{is_at}
use Rattle.std.specs.declared.cmp.Ordering.TheVariants.{Less}
use Rattle.alto_rows.specs.declared.key.Key.{Key}
use Rattle.alto_rows.specs.declared.key.Key.TheVariants as key
use Rattle.alto_rows.specs.declared.resource.Resource.{Resource}
use Rattle.alto_rows.specs.declared.resource.Resource.TheVariants as resource
use Rattle.alto_rows.specs.declared.span.Span.TheVariants as span
use Rattle.alto_rows.specs.declared.value.Value.{Value}
use Rattle.alto_rows.specs.declared.value.Value.TheVariants as value
use Rattle.alto_rows.specs.Good.{AreGood}
use Rattle.alto_rows.specs.Order.{key_cmp, name_cmp, resource_cmp, same_name}
use Rattle.alto_rows.specs.Rows.{Rows, AreSorted, has_row, value_of}
use Rattle.alto_rows.specs.Span.{is_in, rows_in}
use Rattle.alto_rows.specs.Versions.{cost_declared, is_declared, net_declared, nets_of, resources_of}
use Rattle.alto_rows.proofs.OrderLemmas.{key_cmp_itself, resource_cmp_itself, name_cmp_exact, equal_tests}
use Rattle.alto_rows.proofs.ResourceLemmas.{AreOfKind, costs_kind, costs_found, kind_apart, nets_sorted}
use Rattle.alto_rows.proofs.ResourceLemmas.{resources_found, resources_sorted, or_true}
use Rattle.alto_rows.proofs.RowsLemmas.{same_rows}
use Rattle.alto_rows.proofs.SoundLemmas.{need_has_row, sound_of_good}
use Rattle.alto_rows.proofs.StandsLemmas.{stands, stands-filter}
use Rattle.alto_rows.proofs.TouchesLemmas.{one_name, same_name_itself}
use Rattle.alto_rows.proofs.WithinLemmas.{filter_map-rows_in}
use Rattle.alto_versions.specs.Resources.{costs_of}

-- ---- the networks

-- a row outside the span of networks declares none
none_outside : (row : Key × Value) → is_in span.Nets row.0 ≡ false → net_declared row ≡ None
none_outside (key.Net net, v) out = cc
none_outside (_, v) out = refl

-- the networks are those of the rows of their span
pub nets_in_span : (rows : Rows) → filter_map net_declared (rows_in rows span.Nets) ≡ nets_of rows
nets_in_span rows = sym (filter_map-rows_in net_declared span.Nets none_outside rows)

-- ---- resources in order with the same members

-- resources as rows
abbrev rows_with : List Resource → Rows
rows_with ofs = map (λ of. (key.Seq of, value.Unit)) ofs

past_with : (of : Resource) (ofs : List Resource) → AllByRecursion (λ other. resource_cmp of other ≡ Less) ofs
    → AllByRecursion (λ at. key_cmp (key.Seq of) at ≡ Less) (keys_of (rows_with ofs))
unfolding key_cmp
past_with of [] h = tt
past_with of (other ∷ ofs) h = (h.0, past_with of ofs h.1)

sorted_with : (ofs : List Resource) → IsStrictlySortedBy resource_cmp ofs → AreSorted (rows_with ofs)
unfolding IsStrictlySortedBy
sorted_with [] s = tt
sorted_with (of ∷ ofs) s = (past_with of ofs s.0, sorted_with ofs s.1)

value_of-with : (ofs : List Resource) (of : Resource)
    → value_of (rows_with ofs) (key.Seq of) ≡ cond (stands of ofs) (Some value.Unit) None
unfolding key_cmp
value_of-with [] of = refl
value_of-with (one ∷ ofs) of = by (is_eq (resource_cmp of one)) refl (value_of-with ofs of)
  where
    by : (b : Bool) → is_eq (resource_cmp of one) ≡ b
        → value_of (rows_with ofs) (key.Seq of) ≡ cond (stands of ofs) (Some value.Unit) None
        → value_of (rows_with (one ∷ ofs)) (key.Seq of) ≡ cond (stands of (one ∷ ofs)) (Some value.Unit) None
    by true e below = rw e refl
    by false e below = rw e below

no_other : (ofs : List Resource) (at : Key) → ((of : Resource) → is_eq (key_cmp at (key.Seq of)) ≡ false)
    → value_of (rows_with ofs) at ≡ None
no_other [] at h = refl
no_other (one ∷ ofs) at h = rw (h one) (no_other ofs at h)

-- the resource of such a row
abbrev resource_in : Key × Value → Option Resource
resource_in (key.Seq of, v) = Some of
resource_in _ = None

resources_with : (ofs : List Resource) → filter_map resource_in (rows_with ofs) ≡ ofs
resources_with [] = refl
resources_with (of ∷ ofs) = ap (λ (more : List Resource). of ∷ more) (resources_with ofs)

-- resources in order with the same members are the same
same_resources : (ofs others : List Resource) → IsStrictlySortedBy resource_cmp ofs
    → IsStrictlySortedBy resource_cmp others
    → ((of : Resource) → stands of ofs ≡ stands of others) → ofs ≡ others
unfolding key_cmp
same_resources ofs others s t same =
    sym (resources_with ofs)
    ∙ (ap (filter_map resource_in) (same_rows (rows_with ofs) (rows_with others) (sorted_with ofs s)
    (sorted_with others t) values) ∙ resources_with others)
  where
    values : (at : Key) → value_of (rows_with ofs) at ≡ value_of (rows_with others) at
    values (key.Seq of) =
        value_of-with ofs of ∙ (ap (λ (b : Bool). cond b (Some value.Unit) None) (same of)
        ∙ sym (value_of-with others of))
    values at = no_other ofs at (λ of. refl) ∙ sym (no_other others at (λ of. refl))

-- ---- the cost maps, in order

-- a cost map
abbrev is_cost : Resource → Bool
is_cost (resource.Cost net metric) = true
is_cost _ = false

all_costs : (ofs : List Resource) → AreOfKind 2 ofs → filter is_cost ofs ≡ ofs
all_costs [] kinds = refl
all_costs (resource.Net net ∷ ofs) kinds = cc
all_costs (resource.Cost net metric ∷ ofs) kinds =
    ap (λ (more : List Resource). resource.Cost net metric ∷ more) (all_costs ofs kinds.1)
all_costs (resource.Prop net ∷ ofs) kinds = cc

no_maps : (nets : List (List ℕ)) → filter is_cost (map resource.Net nets) ≡ []
no_maps [] = refl
no_maps (net ∷ nets) = no_maps nets

no_props : (nets : List (List ℕ)) → filter is_cost (map resource.Prop nets) ≡ []
no_props [] = refl
no_props (net ∷ nets) = no_props nets

-- are those of the declared resources
costs_declared : (rows : Rows) → filter is_cost (resources_of rows) ≡ filter_map cost_declared rows
costs_declared rows =
    filter-append is_cost (map resource.Net (nets_of rows))
    (filter_map cost_declared rows ++ map resource.Prop (nets_of rows))
    ∙ (rw (
      filter-append is_cost (filter_map cost_declared rows) (map resource.Prop (nets_of rows)),
      no_maps (nets_of rows),
      all_costs (filter_map cost_declared rows) (costs_kind rows),
      no_props (nets_of rows),
    )
    (append-nil (filter_map cost_declared rows)))

costs_in_order : (rows : Rows) → AreSorted rows → IsStrictlySortedBy resource_cmp (filter_map cost_declared rows)
costs_in_order rows s = rw (← costs_declared rows) (IsStrictlySortedBy-filter resource_cmp is_cost (resources_of rows)
    (resources_sorted rows s))

-- ---- network by network

-- a cost map of a network
abbrev is_of : List ℕ → Resource → Bool
is_of net (resource.Cost of metric) = same_name net of
is_of net _ = false

-- the cost maps of each network
abbrev by_net : List Resource → List (List ℕ) → List Resource
by_net costs nets = flat_map (λ net. filter (is_of net) costs) nets

costs_of-filter : (net : List ℕ) (rows : Rows) → costs_of rows net ≡ filter (is_of net) (filter_map cost_declared rows)
costs_of-filter net [] = refl
costs_of-filter net ((key.Metric of metric, v) ∷ rows) = by (same_name net of) refl (costs_of-filter net rows)
  where
    by : (b : Bool) → same_name net of ≡ b → costs_of rows net ≡ filter (is_of net) (filter_map cost_declared rows)
        → costs_of ((key.Metric of metric, v) ∷ rows) net
        ≡ filter (is_of net) (filter_map cost_declared ((key.Metric of metric, v) ∷ rows))
    by true e below = rw e (ap (λ (more : List Resource). resource.Cost of metric ∷ more) below)
    by false e below = rw e below
costs_of-filter net ((_, v) ∷ rows) = costs_of-filter net rows

costs_filtered : (rows : Rows) (nets : List (List ℕ))
    → flat_map (costs_of rows) nets ≡ by_net (filter_map cost_declared rows) nets
costs_filtered rows [] = refl
costs_filtered rows (net ∷ nets) = rw (costs_of-filter net rows, costs_filtered rows nets) refl

-- a resource is before all of these
abbrev IsBefore : Resource → List Resource → Type 0
IsBefore of others = AllByRecursion (λ other. resource_cmp of other ≡ Less) others

before_both : (of : Resource) (first second : List Resource) → IsBefore of first → IsBefore of second
    → IsBefore of (first ++ second)
before_both of [] second f s = s
before_both of (one ∷ first) second f s = (f.0, before_both of first second f.1 s)

-- two lists in order are in order together where each of the first is before all of the second
sorted_both : (first second : List Resource) → IsStrictlySortedBy resource_cmp first
    → IsStrictlySortedBy resource_cmp second
    → AllByRecursion (λ of. IsBefore of second) first → IsStrictlySortedBy resource_cmp (first ++ second)
unfolding IsStrictlySortedBy
sorted_both [] second f s before = s
sorted_both (of ∷ first) second f s before =
    (before_both of first second f.0 before.0, sorted_both first second f.1 s before.1)

-- a cost map is before those of a later network
before_net : (net metric other : List ℕ) (costs : List Resource) → name_cmp net other ≡ Less
    → IsBefore (resource.Cost net metric) (filter (is_of other) costs)
unfolding resource_cmp
before_net net metric other [] less = tt
before_net net metric other (resource.Cost of m ∷ costs) less =
    by (same_name other of) refl (before_net net metric other costs less)
  where
    by : (b : Bool) → same_name other of ≡ b → IsBefore (resource.Cost net metric) (filter (is_of other) costs)
        → IsBefore (resource.Cost net metric) (filter (is_of other) (resource.Cost of m ∷ costs))
    by true e below = rw e (rw (← one_name other of e, less) refl, below)
    by false e below = rw e below
before_net net metric other (_ ∷ costs) less = before_net net metric other costs less

before_nets : (net metric : List ℕ) (costs : List Resource) (nets : List (List ℕ))
    → AllByRecursion (λ other. name_cmp net other ≡ Less) nets
    → IsBefore (resource.Cost net metric) (by_net costs nets)
before_nets net metric costs [] h = tt
before_nets net metric costs (other ∷ nets) h =
    before_both (resource.Cost net metric) (filter (is_of other) costs) (by_net costs nets)
    (before_net net metric other costs h.0)
    (before_nets net metric costs nets h.1)

-- so are all of a network
all_before : (net : List ℕ) (some costs : List Resource) (nets : List (List ℕ))
    → AllByRecursion (λ other. name_cmp net other ≡ Less) nets
    → AllByRecursion (λ of. IsBefore of (by_net costs nets)) (filter (is_of net) some)
all_before net [] costs nets h = tt
all_before net (resource.Cost of metric ∷ some) costs nets h =
    by (same_name net of) refl (all_before net some costs nets h)
  where
    by : (b : Bool) → same_name net of ≡ b
        → AllByRecursion (λ of. IsBefore of (by_net costs nets)) (filter (is_of net) some)
        → AllByRecursion (λ of. IsBefore of (by_net costs nets)) (filter (is_of net) (resource.Cost of metric ∷ some))
    by true e below = rw e (rw (← one_name net of e) (before_nets net metric costs nets h), below)
    by false e below = rw e below
all_before net (_ ∷ some) costs nets h = all_before net some costs nets h

by_net_sorted : (costs : List Resource) (nets : List (List ℕ)) → IsStrictlySortedBy resource_cmp costs
    → IsStrictlySortedBy name_cmp nets
    → IsStrictlySortedBy resource_cmp (by_net costs nets)
unfolding IsStrictlySortedBy
by_net_sorted costs [] s t = tt
by_net_sorted costs (net ∷ nets) s t =
    sorted_both (filter (is_of net) costs) (by_net costs nets)
    (IsStrictlySortedBy-filter resource_cmp (is_of net) costs s)
    (by_net_sorted costs nets s t.1) (all_before net costs costs nets t.0)

-- ---- network by network they are all

and_false : (b : Bool) → false ≡ (b && false)
and_false true = refl
and_false false = refl

one_or_more : (p s q : Bool) → ((p && s) || (s && q)) ≡ (s && (p || q))
one_or_more true true q = refl
one_or_more true false q = refl
one_or_more false true q = refl
one_or_more false false q = refl

stands-by_net : (of : Resource) (costs : List Resource) (nets : List (List ℕ))
    → stands of (by_net costs nets) ≡ (stands of costs && list_any (λ net. is_of net of) nets)
stands-by_net of costs [] = and_false (stands of costs)
stands-by_net of costs (net ∷ nets) =
    list_any-append (is_at (resource_cmp of)) (filter (is_of net) costs) (by_net costs nets)
    ∙ rw (stands-filter (is_of net) of costs, stands-by_net of costs nets)
    (one_or_more (is_of net of) (stands of costs) (list_any (λ one. is_of one of) nets))

-- a declared network is among the networks
net_among : (net : List ℕ) (rows : Rows) → has_row rows (key.Net net) ≡ true
    → list_any (λ one. same_name one net) (nets_of rows) ≡ true
unfolding key_cmp
net_among net [] h = cc
net_among net ((key.Net other, v) ∷ rows) h = by (is_eq (name_cmp net other)) refl (net_among net rows)
  where
    by : (b : Bool) → is_eq (name_cmp net other) ≡ b
        → (has_row rows (key.Net net) ≡ true → list_any (λ one. same_name one net) (nets_of rows) ≡ true)
        → list_any (λ one. same_name one net) (nets_of ((key.Net other, v) ∷ rows)) ≡ true
    by true e below =
        let same : net ≡ other = name_cmp_exact net other (equal_tests (name_cmp net other) e) in
        rw (← same, same_name_itself net) refl
    by false e below = rw (below (rw e at h)) (or_true (same_name other net))
net_among net ((_, v) ∷ rows) h = net_among net rows h

-- the network of a declared cost map is declared
net_of_cost : (rows : Rows) (net metric : List ℕ) → AreGood rows → has_row rows (key.Metric net metric) ≡ true
    → has_row rows (key.Net net) ≡ true
net_of_cost rows net metric good h = by (value_of rows (key.Metric net metric)) refl h
  where
    by : (o : Option Value) → value_of rows (key.Metric net metric) ≡ o → is_some o ≡ true
        → has_row rows (key.Net net) ≡ true
    by None e some = cc
    by (Some v) e some =
        need_has_row rows (key.Net net) (key.Metric net metric) v (sound_of_good rows good)
        e (rw (key_cmp_itself (key.Net net)) refl)

-- the cost maps of all declared networks are the declared cost maps
pub costs_by_net : (rows : Rows) → AreGood rows
    → flat_map (costs_of rows) (nets_of rows) ≡ filter_map cost_declared rows
costs_by_net rows good =
    costs_filtered rows (nets_of rows)
    ∙ same_resources (by_net costs (nets_of rows)) costs
    (by_net_sorted costs (nets_of rows) (costs_in_order rows good.sorted) (nets_sorted rows good.sorted))
    (costs_in_order rows good.sorted)
    (λ of. stands-by_net of costs (nets_of rows) ∙ members of)
  where
    costs : List Resource
    costs = filter_map cost_declared rows

    found : (net metric : List ℕ) (b : Bool) → has_row rows (key.Metric net metric) ≡ b
        → (b && list_any (λ one. same_name one net) (nets_of rows)) ≡ b
    found net metric true e = net_among net rows (net_of_cost rows net metric good e)
    found net metric false e = refl

    members : (of : Resource) → (stands of costs && list_any (λ net. is_of net of) (nets_of rows)) ≡ stands of costs
    members (resource.Net net) = rw (kind_apart (resource.Net net) 2 costs refl (costs_kind rows)) refl
    members (resource.Cost net metric) =
        rw (costs_found net metric rows) (found net metric (has_row rows (key.Metric net metric)) refl)
    members (resource.Prop net) = rw (kind_apart (resource.Prop net) 2 costs refl (costs_kind rows)) refl

-- ---- what holds of each

-- each declared resource is declared
all_declared : (rows : Rows) (ofs : List Resource)
    → ((of : Resource) → stands of ofs ≡ true → is_declared rows of ≡ true)
    → AllByRecursion (λ of. is_declared rows of ≡ true) ofs
all_declared rows [] h = tt
all_declared rows (of ∷ ofs) h = (
  h of (rw (resource_cmp_itself of) refl),
  all_declared rows ofs (λ one s. h one (rw s (or_true (is_eq (resource_cmp one of))))),
)

pub resources_declared : (rows : Rows) → AllByRecursion (λ of. is_declared rows of ≡ true) (resources_of rows)
resources_declared rows = all_declared rows (resources_of rows) (λ of s. sym (resources_found rows of) ∙ s)
