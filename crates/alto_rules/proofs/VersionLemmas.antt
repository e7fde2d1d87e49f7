-- What depends on the resources of a draft, and the version rows of a batch in order.
use Rattle.std.proofs.Common.{◌≡◌, refl, ap, sym, ◌∙◌}
use Rattle.std.proofs.lemmas.Cmp.{eq_by_cmp_equiv, nat_list_cmp_total}
use Rattle.std.proofs.lemmas.List.Folds.{list_any-append}
use Rattle.std.proofs.lemmas.List.Kept.{IsStrictlySortedBy-filter}
use Rattle.std.proofs.lemmas.Map.Lookups.{btree_set_from_contains}
use Rattle.std.proofs.lemmas.Map.Views.{any-filter_same}
use Rattle.std.specs.Prelude.{ℕ, Bool, true, false, cond, ◌||◌, ◌&&◌, List, [], ◌∷◌, filter, None, is_some}
use Rattle.std.specs.BTreeMap.{is_at}
use Rattle.std.specs.BTreeSet as set
use Rattle.std.specs.BTreeSet.{BTreeSet, IsOrdered, contains}
use Rattle.std.specs.List.{filter_map, flat_map, list_any}
use Rattle.std.specs.Map.{keys_of}
use Rattle.std.specs.Ordering.{is_eq}
use Rattle.std.specs.declared.cmp.Ordering.{Ordering}
use Rattle.std.specs.declared.cmp.Ordering.TheVariants.{Less, Equal, Greater}
use Rattle.alto_rows.specs.declared.key.Key.{Key}
use Rattle.alto_rows.specs.declared.key.Key.TheVariants as key
use Rattle.alto_rows.specs.declared.resource.Resource.{Resource}
use Rattle.alto_rows.specs.declared.resource.Resource.TheVariants as resource
use Rattle.alto_rows.specs.declared.value.Value.{Value}
use Rattle.alto_rows.specs.declared.write.Write.{Write}
use Rattle.alto_rows.specs.Order.{resource_cmp, name_cmp, net_of, same_name}
use Rattle.alto_rows.specs.Rows.{Rows, AreSorted, value_of, has_row, after}
use Rattle.alto_rows.specs.Span.{rows_in}
use Rattle.alto_rows.specs.declared.span.Span.TheVariants as span
use Rattle.alto_rows.specs.Touches.{is_resource, part_of}
use Rattle.alto_rows.specs.Versions.{cost_declared, is_declared, resources_of}
use Rattle.alto_rows.proofs.OrderLemmas.{resource_cmp_exact, resource_cmp_total}
use Rattle.alto_rows.proofs.ResourceLemmas.{costs_found, costs_kind, kind_apart, or_false, resources_found}
use Rattle.alto_rows.proofs.ResourceLemmas.{resources_sorted}
use Rattle.alto_rows.proofs.TouchesLemmas.{none_part, same_name_ties}
use Rattle.alto_rows.proofs.WithinLemmas.{value_of-rows_in}
use Rattle.alto_rows.proofs.WriteLemmas.{sorted_after, value_of-after-none}
use Rattle.alto_edits.specs.Versions.{is_written, is_touched}
use Rattle.alto_rules.specs.Draft.{HasJoined, HasTouched, HaveNoVersions, cost_of, costs_of, dependents, is_among}
use Rattle.alto_rules.specs.Index.{is_part}
use Rattle.alto_rules.specs.Withdrawal.{named_in, names_key}

-- ---- writes of no versions

-- they write the resources that they are part of
pub part_written : (writes : List Write) (of : Resource) → HaveNoVersions writes
    → is_part writes of ≡ is_written writes of
part_written [] of none = refl
part_written (write ∷ writes) of none =
    rw (none.0, part_written writes of none.1) (by (is_resource (part_of write.key) of) (is_written writes of))
  where
    by : (b w : Bool) → (b || w) ≡ ((b || false) || w)
    by true w = refl
    by false w = refl

-- ---- what depends on the resources of a draft

-- a resource depends on its network's map: a cost map, where the rows declare it
abbrev depends : Rows → Resource → Bool
depends rows (resource.Cost net metric) = is_declared rows (resource.Cost net metric)
depends rows _ = true

-- the cost maps of a network that rows declare
costs_among : (rows : Rows) (net metric other : List ℕ)
    → is_among (resource.Cost net metric) (filter_map cost_declared (rows_in rows (span.Metrics other)))
    ≡ (is_eq (name_cmp net other) && has_row rows (key.Metric net metric))
costs_among rows net metric other =
    costs_found net metric (rows_in rows (span.Metrics other))
    ∙ ap is_some (value_of-rows_in rows (span.Metrics other) (key.Metric net metric))
    ∙ rw (same_name_ties other net ∙ (eq_by_cmp_equiv nat_list_cmp_total).symm other net)
    (by (is_eq (name_cmp net other)))
  where
    by : (b : Bool) → is_some (cond b (value_of rows (key.Metric net metric)) None)
        ≡ (b && has_row rows (key.Metric net metric))
    by true = refl
    by false = refl

and_true : (b : Bool) → (b && true) ≡ b
and_true true = refl
and_true false = refl

-- no network map or property map is a cost map
no_map : (rows : Rows) (net other : List ℕ)
    → is_among (resource.Net net) (filter_map cost_declared (rows_in rows (span.Metrics other))) ≡ false
no_map rows net other = kind_apart (resource.Net net) 2 (filter_map cost_declared (rows_in rows (span.Metrics other)))
    refl (costs_kind (rows_in rows (span.Metrics other)))

no_prop : (rows : Rows) (net other : List ℕ)
    → is_among (resource.Prop net) (filter_map cost_declared (rows_in rows (span.Metrics other))) ≡ false
no_prop rows net other = kind_apart (resource.Prop net) 2 (filter_map cost_declared (rows_in rows (span.Metrics other)))
    refl (costs_kind (rows_in rows (span.Metrics other)))

-- among the dependents of a resource are that resource and, where it is a network map, what depends on it
among_dependents : (rows : Rows) (of one : Resource)
    → is_among one (dependents rows of)
    ≡ (is_eq (resource_cmp one of) || (is_eq (resource_cmp (resource.Net (net_of one)) of) && depends rows one))
unfolding resource_cmp
among_dependents rows (resource.Net net) (resource.Net other) =
    rw (no_map rows other net, and_true (is_eq (name_cmp other net))) (twice (is_eq (name_cmp other net)))
  where
    twice : (b : Bool) → (b || false) ≡ (b || b)
    twice true = refl
    twice false = refl
among_dependents rows (resource.Net net) (resource.Cost other metric) = costs_among rows other metric net
among_dependents rows (resource.Net net) (resource.Prop other) =
    rw (no_prop rows other net, and_true (is_eq (name_cmp other net))) (or_false (is_eq (name_cmp other net)))
among_dependents rows (resource.Cost net metric) one = refl
among_dependents rows (resource.Prop net) one = refl

-- of many resources
among_all_dependents : (rows : Rows) (ofs : List Resource) (one : Resource)
    → is_among one (flat_map (dependents rows) ofs)
    ≡ (is_among one ofs || (is_among (resource.Net (net_of one)) ofs && depends rows one))
among_all_dependents rows [] one = refl
among_all_dependents rows (of ∷ ofs) one =
    list_any-append (is_at (resource_cmp one)) (dependents rows of) (flat_map (dependents rows) ofs)
    ∙ rw (among_dependents rows of one, among_all_dependents rows ofs one)
    (mixed (is_eq (resource_cmp one of)) (is_eq (resource_cmp (resource.Net (net_of one)) of)) (is_among one ofs)
    (is_among (resource.Net (net_of one)) ofs) (depends rows one))
  where
    mixed : (a b c d e : Bool) → ((a || (b && e)) || (c || (d && e))) ≡ ((a || c) || ((b || d) && e))
    mixed true b c d e = refl
    mixed false true true d true = refl
    mixed false false true d true = refl
    mixed false true true d false = refl
    mixed false false true d false = refl
    mixed false true false d true = refl
    mixed false false false d true = refl
    mixed false true false true false = refl
    mixed false true false false false = refl
    mixed false false false true false = refl
    mixed false false false false false = refl

-- so of what is declared after the writes the dependents are exactly what these touch
pub dependents_touched : (rows : Rows) (writes : List Write) (parts : BTreeSet Resource) → AreSorted rows
    → ((of : Resource) → contains resource_cmp parts of ≡ is_written writes of) → (one : Resource)
    → (is_among one (flat_map (dependents rows) parts.keys) && is_declared (after rows writes) one)
    ≡ (is_touched writes one && is_declared (after rows writes) one)
dependents_touched rows writes parts s same one =
    rw (among_all_dependents rows parts.keys one, same one, same (resource.Net (net_of one)))
    (by (is_written writes one) refl (is_written writes (resource.Net (net_of one)))
    (is_declared (after rows writes) one) refl)
  where
    here : (of : Resource) → is_written writes of ≡ false → is_declared (after rows writes) of ≡ true
        → depends rows of ≡ true
    here (resource.Cost net metric) out now =
        ap is_some (sym (value_of-after-none rows writes (key.Metric net metric)
        s (none_part (resource.Cost net metric) (key.Metric net metric) writes refl out))) ∙ now
    here (resource.Net net) out now = refl
    here (resource.Prop net) out now = refl

    by : (w : Bool) → is_written writes one ≡ w → (n d : Bool) → is_declared (after rows writes) one ≡ d
        → ((w || (n && depends rows one)) && d) ≡ ((w || n) && d)
    by true e n d f = refl
    by false e true true f = rw (here one e f) refl
    by false e true false f = never (depends rows one)
      where
        never : (b : Bool) → (b && false) ≡ false
        never true = refl
        never false = refl
    by false e false d f = refl

-- one dependent more, where it was among those that were left
pub moved : (all all' : BTreeSet Resource) (more : Resource) (one : Resource) (left : Bool)
    → set.Updates resource_cmp all all' more true
    → (contains resource_cmp all' one || left)
    ≡ (contains resource_cmp all one || (is_eq (resource_cmp one more) || left))
moved all all' more one left h =
    rw (h.0 one, (eq_by_cmp_equiv resource_cmp_total).symm more one)
    (by (is_eq (resource_cmp one more)) (contains resource_cmp all one))
  where
    by : (b t : Bool) → (cond b true t || left) ≡ (t || (b || left))
    by true true = refl
    by true false = refl
    by false t = refl

-- the cost maps of the keys of a network's metrics are those that the rows declare
pub metrics_named : (rows : Rows) (net : List ℕ)
    → filter_map cost_of (named_in rows (span.Metrics net) (key.Net net)) ≡ costs_of rows net
metrics_named [] net = refl
metrics_named (row ∷ rows) net = by row.0 row.1 (metrics_named rows net)
  where
    tie : (of metric : List ℕ) (v : Value) (b : Bool) → same_name net of ≡ b
        → filter_map cost_of (named_in rows (span.Metrics net) (key.Net net)) ≡ costs_of rows net
        → filter_map cost_of (filter (names_key (key.Net net))
        (keys_of (cond b ((key.Metric of metric, v) ∷ rows_in rows (span.Metrics net))
        (rows_in rows (span.Metrics net)))))
        ≡ filter_map cost_declared (cond b ((key.Metric of metric, v) ∷ rows_in rows (span.Metrics net))
        (rows_in rows (span.Metrics net)))
    tie of metric v true e below = rw e (ap (λ (all : List Resource). resource.Cost of metric ∷ all) below)
    tie of metric v false e below = below

    by : (at : Key) (v : Value) → filter_map cost_of (named_in rows (span.Metrics net) (key.Net net))
        ≡ costs_of rows net
        → filter_map cost_of (named_in ((at, v) ∷ rows) (span.Metrics net) (key.Net net))
        ≡ costs_of ((at, v) ∷ rows) net
    by (key.Metric of metric) v below = tie of metric v (same_name net of) refl below
    by _ v below = below

-- one cost map more
pub cost_joined : (all all' : BTreeSet Resource) (more : Resource) → set.Updates resource_cmp all all' more true
    → HasJoined all (more ∷ []) all'
cost_joined all all' more put one = sym (or_false (contains resource_cmp all' one)) ∙ moved all all' more one false put

-- a network's map, its property map and its cost maps join one after another
pub map_joined : (rows : Rows) (net : List ℕ) (first second third fourth : BTreeSet Resource)
    → set.Updates resource_cmp first second (resource.Net net) true
    → set.Updates resource_cmp second third (resource.Prop net) true
    → HasJoined third (filter_map cost_declared (rows_in rows (span.Metrics net))) fourth
    → HasJoined first (dependents rows (resource.Net net)) fourth
map_joined rows net first second third fourth a b c one =
    c one ∙ (moved second third (resource.Prop net)
    one (is_among one (filter_map cost_declared (rows_in rows (span.Metrics net)))) b
    ∙ moved first second (resource.Net net) one (is_eq (resource_cmp one (resource.Prop net))
    || is_among one (filter_map cost_declared (rows_in rows (span.Metrics net)))) a)

-- once all resources have been gone over, what joined is what depends on them
pub all_joined : (rows : Rows) (parts start left : List Resource) (first last : BTreeSet Resource) → first.keys ≡ []
    → start ≡ parts → left ≡ []
    → ((one : Resource) → (contains resource_cmp last one || is_among one (flat_map (dependents rows) left))
    ≡ (contains resource_cmp first one || is_among one (flat_map (dependents rows) start)))
    → (one : Resource) → contains resource_cmp last one ≡ is_among one (flat_map (dependents rows) parts)
all_joined rows parts start left first last none all end over one =
    sym (or_false (contains resource_cmp last one))
    ∙ (ap (λ (ofs : List Resource). contains resource_cmp last one || is_among one (flat_map (dependents rows) ofs))
    (sym end)
    ∙ (over one
    ∙ (ap (λ (ofs : List Resource). is_among one ofs || is_among one (flat_map (dependents rows) start)) none
    ∙ ap (λ (ofs : List Resource). is_among one (flat_map (dependents rows) ofs)) all)))

-- so of a draft's resources it is what the writes touch
pub has_touched : (rows : Rows) (writes : List Write) (parts last : BTreeSet Resource) → AreSorted rows
    → HaveNoVersions writes
    → ((of : Resource) → contains resource_cmp parts of ≡ is_part writes of)
    → ((one : Resource) → contains resource_cmp last one ≡ is_among one (flat_map (dependents rows) parts.keys))
    → HasTouched rows writes last
has_touched rows writes parts last s none same all one =
    ap (λ b. b && is_declared (after rows writes) one) (all one)
    ∙ dependents_touched rows writes parts s (λ of. same of ∙ part_written writes of none) one

-- ---- the resources that a batch touches, in order

swapped : (a b : Bool) → (a && b) ≡ (b && a)
swapped true true = refl
swapped true false = refl
swapped false true = refl
swapped false false = refl

-- the resources of an ordered set that pass a test tell one by one whether they are there
filtered : (test : Resource → Bool) (ofs : List Resource) (of : Resource)
    → list_any (is_at (resource_cmp of)) (filter test ofs) ≡ (test of && list_any (is_at (resource_cmp of)) ofs)
filtered test ofs of = any-filter_same (is_at (resource_cmp of)) test (test of)
    (λ other. tied other (resource_cmp of other) refl) ofs
  where
    tied : (other : Resource) → (o : Ordering) → resource_cmp of other ≡ o → is_eq o ≡ true → test other ≡ test of
    tied other Equal e h = ap test (sym (resource_cmp_exact of other e))
    tied other Less e h = cc
    tied other Greater e h = cc

-- of an ordered set that has what the writes touch, the declared ones are those of the version rows, in their order
pub touched_in_order : (rows : Rows) (writes : List Write) (touched : BTreeSet Resource)
    → AreSorted rows → IsOrdered resource_cmp touched → HasTouched rows writes touched
    → filter (is_declared (after rows writes)) touched.keys
    ≡ filter (is_touched writes) (resources_of (after rows writes))
touched_in_order rows writes touched s ordered same =
    btree_set_from_contains resource_cmp_total
    (record { keys = filter (is_declared (after rows writes)) touched.keys })
    (record { keys = filter (is_touched writes) (resources_of (after rows writes)) })
    (IsStrictlySortedBy-filter resource_cmp (is_declared (after rows writes)) touched.keys ordered)
    (IsStrictlySortedBy-filter resource_cmp (is_touched writes) (resources_of (after rows writes))
    (resources_sorted (after rows writes) (sorted_after rows writes s)))
    (λ of.
    filtered (is_declared (after rows writes)) touched.keys of
    ∙ (swapped (is_declared (after rows writes) of) (contains resource_cmp touched of)
    ∙ (same of
    ∙ sym (filtered (is_touched writes) (resources_of (after rows writes)) of
    ∙ ap (λ b. is_touched writes of && b) (resources_found (after rows writes) of)))))
    resource_cmp_exact
