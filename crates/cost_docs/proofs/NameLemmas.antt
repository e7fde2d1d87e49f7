-- The names of groups as their costs come.
use Rattle.std.proofs.Common.{◌≡◌, refl, ap, sym, ◌∙◌}
use Rattle.std.specs.Prelude.{Bool, true, false, cond, List, [], ◌∷◌, ◌++◌, Option, Some, None, map}
use Rattle.json_tree.specs.Order.{names_of}
use Rattle.json_tree.specs.Tree.{members_in_order}
use Rattle.serde_json.specs.Data.{Data}
use Rattle.alto_maps.proofs.RisingLemmas.{named-rising}
use Rattle.alto_maps.proofs.SetLemmas.{rise-set_of}
use Rattle.alto_maps.specs.Places.{set_of}
use Rattle.alto_maps.specs.Shape.{Name, group_object, same_name}
use Rattle.alto_rows.specs.declared.span.Span.TheVariants as span
use Rattle.alto_rows.specs.Good.{AreGood}
use Rattle.alto_rows.specs.Rows.{Rows}
use Rattle.doc_pieces.proofs.NameLemmas.{set_of-rising}
use Rattle.cost_docs.specs.declared.costs.Cost.{Cost}
use Rattle.cost_docs.specs.CostMap.{cost_face, sources_of}
use Rattle.cost_docs.specs.Costs.{costs_within}
use Rattle.cost_docs.specs.Writing.{name_begun, names_left}
use Rattle.cost_docs.proofs.GatheredLemmas.{Gathered, as_members, gathered, groups_gathered, with_cost}

-- those of gathered groups, without that of the first, where it is begun
abbrev group_names : List Gathered → List Name
group_names groups = map (λ (group : Gathered). group.0) groups

abbrev groups_left : Option Name → List Gathered → List Name
groups_left None groups = group_names groups
groups_left (Some src) [] = []
groups_left (Some src) (group ∷ groups) =
    cond (same_name src group.0) (group_names groups) (group_names (group ∷ groups))

cost_before : (current : Option Name) (c : Cost) (groups : List Gathered)
    → name_begun current (Some c) ++ groups_left (Some c.source) groups ≡ groups_left current (with_cost c groups)
cost_before None c [] = refl
cost_before None c (group ∷ groups) = by (same_name c.source group.0) refl
  where
    by : (b : Bool) → same_name c.source group.0 ≡ b
        → name_begun None (Some c) ++ groups_left (Some c.source) (group ∷ groups)
        ≡ groups_left None (with_cost c (group ∷ groups))
    by true e = rw e refl
    by false e = rw e refl
cost_before (Some src) c [] = by (same_name src c.source) refl
  where
    by : (b : Bool) → same_name src c.source ≡ b
        → name_begun (Some src) (Some c) ++ groups_left (Some c.source) [] ≡ groups_left (Some src) (with_cost c [])
    by true e = rw e refl
    by false e = rw e refl
cost_before (Some src) c (group ∷ groups) = by (same_name src c.source) (same_name c.source group.0) refl refl
  where
    by : (a b : Bool) → same_name src c.source ≡ a → same_name c.source group.0 ≡ b
        → name_begun (Some src) (Some c) ++ groups_left (Some c.source) (group ∷ groups)
        ≡ groups_left (Some src) (with_cost c (group ∷ groups))
    by true true e f = rw (e, f) (rw e refl)
    by true false e f = rw (e, f) (rw e refl)
    by false true e f = rw (e, f) (rw e refl)
    by false false e f = rw (e, f) (rw e refl)

costs_make : (current : Option Name) (costs : List Cost)
    → names_left current costs ≡ groups_left current (gathered costs)
costs_make None [] = refl
costs_make (Some src) [] = refl
costs_make current (c ∷ costs) = ap (λ names. name_begun current (Some c) ++ names) (costs_make (Some c.source) costs)
    ∙ cost_before current c (gathered costs)

names_of-gathered : (groups : List Gathered) → names_of (as_members groups) ≡ group_names groups
names_of-gathered [] = refl
names_of-gathered (group ∷ groups) = ap (λ names. group.0 ∷ names) (names_of-gathered groups)

names_of-listed : (value : Name → Data) (names : List Name)
    → names_of (members_in_order (map {B = Name × Data} (λ name. (name, value name)) names)) ≡ names
names_of-listed value [] = refl
names_of-listed value (name ∷ names) = ap (λ ns. name ∷ ns) (names_of-listed value names)

-- they are the sources of the metric
pub names_made : (net metric : Name) (rows : Rows) → AreGood rows
    → names_left None (costs_within rows (span.CostsIn net metric)) ≡ sources_of rows net metric
names_made net metric rows good =
    let costs = costs_within rows (span.CostsIn net metric) in
    let object_at = group_object (cost_face net metric rows) in
    costs_make None costs
    ∙ (sym (names_of-gathered (gathered costs))
    ∙ (ap names_of (sym (groups_gathered net metric rows good) ∙ named-rising object_at (sources_of rows net metric)
    (rise-set_of _))
    ∙ names_of-listed object_at (sources_of rows net metric)))

-- which are a set
pub sources_set : (net metric : Name) (rows : Rows) → set_of (sources_of rows net metric) ≡ sources_of rows net metric
sources_set net metric rows = set_of-rising (sources_of rows net metric) (rise-set_of _)
