-- Costs that stand by source, gathered by it, are the groups of the map.
use Rattle.std.proofs.Common.{◌≡◌, refl, ap, sym, ◌∙◌, subst}
use Rattle.std.proofs.lemmas.Map.Text.{is_eq-slice_cmp}
use Rattle.std.specs.Prelude.{Bool, true, false, cond, List, [], ◌∷◌, Option, Some, None, filter, map}
use Rattle.std.specs.Cmp.Lexicographic.{slice_cmp}
use Rattle.std.specs.List.{list_any}
use Rattle.std.specs.List.Sorted.{IsStrictlySortedBy}
use Rattle.std.specs.Ordering.{nat_cmp, is_eq, is_gt}
use Rattle.std.specs.declared.cmp.Ordering.{Ordering}
use Rattle.std.specs.declared.cmp.Ordering.TheVariants.{Less, Equal, Greater}
use Rattle.serde_json.specs.Data.{Data, object, number, unsigned, Members, no_members, member}
use Rattle.serde_json.specs.Find.{get_member}
use Rattle.json_tree.specs.Order.{AreInOrder}
use Rattle.json_tree.specs.Tree.{members_in_order}
use Rattle.json_tree.proofs.OrderLemmas.{AreAbove, above_lesser, get_member-above, same_members}
use Rattle.alto_rows.specs.declared.span.Span.TheVariants as span
use Rattle.alto_rows.specs.Good.{AreGood}
use Rattle.alto_rows.specs.Rows.{Rows}
use Rattle.alto_maps.specs.Shape.{Name, group_object, same_name}
use Rattle.alto_maps.proofs.ObjectLemmas.{found-named, in_order-named}
use Rattle.alto_maps.proofs.RisingLemmas.{named-rising}
use Rattle.alto_maps.proofs.SetLemmas.{any-set_of, one}
use Rattle.cost_docs.specs.declared.costs.Cost.{Cost}
use Rattle.alto_rows.specs.Costs.{cost_of}
use Rattle.cost_docs.specs.CostMap.{cost_face, destinations_of, number_data, sources_of}
use Rattle.cost_docs.specs.Costs.{costs_within}
use Rattle.cost_docs.specs.Writing.{groups_of, members_from}
use Rattle.cost_docs.proofs.CostLemmas.{all_taken, all_told, costs_from, costs_told, sources_given}
use Rattle.cost_docs.proofs.OrderLemmas.{NoneBefore, StandBySource, destinations_rise, stand_by_source}

-- a source with the members of its group
abbrev pub Gathered : Type 0
Gathered = Name × Members

-- a cost before groups: in the first, where that is its source's, else in one of its own
abbrev pub with_cost : Cost → List Gathered → List Gathered
with_cost c [] = (c.source, member c.destination (number (unsigned c.amount)) no_members) ∷ []
with_cost c (group ∷ groups) =
    cond (same_name c.source group.0) ((c.source, member c.destination (number (unsigned c.amount)) group.1) ∷ groups)
    ((c.source, member c.destination (number (unsigned c.amount)) no_members) ∷ group ∷ groups)

-- costs gathered by their source
abbrev pub gathered : List Cost → List Gathered
gathered [] = []
gathered (c ∷ costs) = with_cost c (gathered costs)

-- groups as members
abbrev pub as_members : List Gathered → Members
as_members groups = members_in_order (map {B = Name × Data} (λ (group : Gathered). (group.0, object group.1)) groups)

-- costs as members
abbrev pub listed : List Cost → Members
listed costs = members_in_order
    (map {B = Name × Data} (λ (c : Cost). (c.destination, number (unsigned c.amount))) costs)

-- those of a source
abbrev pub own : Name → List Cost → List Cost
own src costs = filter (λ (c : Cost). same_name src c.source) costs

-- a source has a cost
abbrev pub is_source : Name → List Cost → Bool
is_source src costs = list_any (same_name src) (map (λ (c : Cost). c.source) costs)

-- ---- they stand in order

-- the first group isn't of a source before this one
abbrev IsFrom : Name → List Gathered → Type 0
IsFrom src [] = Unit {0}
IsFrom src (group ∷ groups) = is_gt (slice_cmp nat_cmp src group.0) ≡ false

from_first : (src : Name) (costs : List Cost) → NoneBefore src costs → IsFrom src (gathered costs)
from_first src [] none = tt
from_first src (c ∷ costs) none = by (gathered costs)
  where
    by : (groups : List Gathered) → IsFrom src (with_cost c groups)
    by [] = none.0
    by (group ∷ groups) = at (same_name c.source group.0)
      where
        at : (b : Bool)
            → IsFrom src (cond b ((c.source, member c.destination (number (unsigned c.amount)) group.1) ∷ groups)
            ((c.source, member c.destination (number (unsigned c.amount)) no_members) ∷ group ∷ groups))
        at true = none.0
        at false = none.0

-- a name that is neither behind another nor it is before it
is_before : (a b : Name) → is_gt (slice_cmp nat_cmp a b) ≡ false → same_name a b ≡ false → slice_cmp nat_cmp a b ≡ Less
is_before a b from other = by (slice_cmp nat_cmp a b) from (is_eq-slice_cmp a b ∙ other)
  where
    by : (o : Ordering) → is_gt o ≡ false → is_eq o ≡ false → o ≡ Less
    by Less g h = refl
    by Equal g h = cc
    by Greater g h = cc

-- so all groups are behind a source that isn't that of the first
above : (src : Name) (group : Gathered) (groups : List Gathered) → IsFrom src (group ∷ groups)
    → same_name src group.0 ≡ false → AreInOrder (as_members (group ∷ groups))
    → AreAbove src (as_members (group ∷ groups))
unfolding IsStrictlySortedBy
above src group groups from other order =
    let less : slice_cmp nat_cmp src group.0 ≡ Less = is_before src group.0 from other in
    (less, above_lesser src group.0 (as_members groups) less order.0)

ordered : (costs : List Cost) → StandBySource costs → AreInOrder (as_members (gathered costs))
unfolding IsStrictlySortedBy
ordered [] stand = tt
ordered (c ∷ costs) stand = by (gathered costs) (from_first c.source costs stand.0) (ordered costs stand.1)
  where
    by : (groups : List Gathered) → IsFrom c.source groups → AreInOrder (as_members groups)
        → AreInOrder (as_members (with_cost c groups))
    by [] from order = (tt, tt)
    by (group ∷ groups) from order = at (same_name c.source group.0) refl
      where
        at : (b : Bool) → same_name c.source group.0 ≡ b
            → AreInOrder (as_members (cond
            b ((c.source, member c.destination (number (unsigned c.amount)) group.1) ∷ groups)
            ((c.source, member c.destination (number (unsigned c.amount)) no_members) ∷ group ∷ groups)))
        at true e = (subst (λ n. AreAbove n (as_members groups)) (sym (one c.source group.0 e)) order.0, order.1)
        at false e = (above c.source group groups from e order, order)

-- ---- what is found in them

-- at a name of members as they stand
found_first : (q k : Name) (d : Data) (ms : Members)
    → get_member q (member k d ms) ≡ cond (same_name q k) (Some d) (get_member q ms)
found_first q k d ms = by (slice_cmp nat_cmp q k) refl (sym (is_eq-slice_cmp q k))
  where
    by : (o : Ordering) → slice_cmp nat_cmp q k ≡ o → same_name q k ≡ is_eq (slice_cmp nat_cmp q k)
        → get_member q (member k d ms) ≡ cond (same_name q k) (Some d) (get_member q ms)
    by Less is same = rw (same, is) refl
    by Equal is same = rw (same, is) refl
    by Greater is same = rw (same, is) refl

-- what groups have at a name that a test of sources tells
abbrev at_source : Bool → Members → Option Data
at_source b ms = cond b (Some (object ms)) None

-- where there is no cost of a source, none is its own
none_own : (src : Name) (costs : List Cost) → is_source src costs ≡ false → own src costs ≡ []
none_own src [] none = refl
none_own src (c ∷ costs) none = by (same_name src c.source) refl (none_own src costs)
  where
    by : (b : Bool) → same_name src c.source ≡ b → (is_source src costs ≡ false → own src costs ≡ [])
        → own src (c ∷ costs) ≡ []
    by true e below = let both : true ≡ false = rw e at none in cc
    by false e below = rw e (below (rw e at none))

-- the group of a source at a name
found : (costs : List Cost) → StandBySource costs → (q : Name)
    → get_member q (as_members (gathered costs)) ≡ at_source (is_source q costs) (listed (own q costs))
found [] stand q = refl
found (c ∷ costs) stand q =
    by (gathered costs) (from_first c.source costs stand.0) (ordered costs stand.1) (found costs stand.1)
  where
    amount : Data
    amount = number (unsigned c.amount)

    -- at another name nothing changes
    other : (ms : Members) → same_name q c.source ≡ false
        → get_member q ms ≡ at_source (is_source q costs) (listed (own q costs))
        → get_member q ms ≡ at_source (is_source q (c ∷ costs)) (listed (own q (c ∷ costs)))
    other ms e is = rw e is

    -- at its source a cost comes before those that were there
    here : (ms : Members) → same_name q c.source ≡ true → ms ≡ listed (own c.source costs)
        → Some (object (member c.destination amount ms))
        ≡ at_source (is_source q (c ∷ costs)) (listed (own q (c ∷ costs)))
    here ms e is =
        let same : q ≡ c.source = one q c.source e in
        let owned : own q costs ≡ own c.source costs = ap (λ n. own n costs) same in
        rw (e, owned, is) refl

    -- which are none
    alone : (ms : Members) → AreAbove c.source ms
        → get_member c.source ms ≡ at_source (is_source c.source costs) (listed (own c.source costs))
        → no_members ≡ listed (own c.source costs)
    alone ms behind is =
        let none : at_source (is_source c.source costs) (listed (own c.source costs)) ≡ None =
        sym is ∙ get_member-above c.source ms behind in
        at (is_source c.source costs) refl none
      where
        at : (b : Bool) → is_source c.source costs ≡ b → at_source b (listed (own c.source costs)) ≡ None
            → no_members ≡ listed (own c.source costs)
        at true e none = cc
        at false e none = ap listed (sym (none_own c.source costs e))

    -- or those of the first group
    joined : (ms : Members) → Some (object ms) ≡ at_source (is_source c.source costs) (listed (own c.source costs))
        → ms ≡ listed (own c.source costs)
    joined ms is = at (is_source c.source costs) is
      where
        at : (b : Bool) → Some (object ms) ≡ at_source b (listed (own c.source costs))
            → ms ≡ listed (own c.source costs)
        at true e = cc
        at false e = cc

    by : (groups : List Gathered) → IsFrom c.source groups → AreInOrder (as_members groups)
        → ((p : Name) → get_member p (as_members groups) ≡ at_source (is_source p costs) (listed (own p costs)))
        → get_member q (as_members (with_cost c groups))
        ≡ at_source (is_source q (c ∷ costs)) (listed (own q (c ∷ costs)))
    by [] from order below = found_first q c.source (object (member c.destination amount no_members)) no_members
        ∙ at (same_name q c.source) refl
      where
        at : (b : Bool) → same_name q c.source ≡ b
            → cond b (Some (object (member c.destination amount no_members))) None
            ≡ at_source (is_source q (c ∷ costs)) (listed (own q (c ∷ costs)))
        at true e = here no_members e (alone no_members tt (below c.source))
        at false e = other no_members e (below q)
    by (group ∷ groups) from order below = first (same_name c.source group.0) refl
      where
        first : (b : Bool) → same_name c.source group.0 ≡ b
            → get_member q (as_members (cond b ((c.source, member c.destination amount group.1) ∷ groups)
            ((c.source, member c.destination amount no_members) ∷ group ∷ groups)))
            ≡ at_source (is_source q (c ∷ costs)) (listed (own q (c ∷ costs)))
        first true f = found_first q c.source (object (member c.destination amount group.1)) (as_members groups)
            ∙ at (same_name q c.source) refl
          where
            at : (b : Bool) → same_name q c.source ≡ b
                → cond b (Some (object (member c.destination amount group.1))) (get_member q (as_members groups))
                ≡ at_source (is_source q (c ∷ costs)) (listed (own q (c ∷ costs)))
            at true e =
                let it : get_member c.source (as_members (group ∷ groups)) ≡ Some (object group.1) =
                found_first c.source group.0 (object group.1) (as_members groups) ∙ rw f refl in
                here group.1 e (joined group.1 (sym it ∙ below c.source))
            at false e =
                let apart : same_name q group.0 ≡ false = ap (same_name q) (sym (one c.source group.0 f)) ∙ e in
                let it : get_member q (as_members (group ∷ groups)) ≡ get_member q (as_members groups) =
                found_first q group.0 (object group.1) (as_members groups) ∙ rw apart refl in
                other (as_members groups) e (sym it ∙ below q)
        first false f = found_first q c.source (object (member c.destination amount no_members))
            (as_members (group ∷ groups)) ∙ at (same_name q c.source) refl
          where
            at : (b : Bool) → same_name q c.source ≡ b
                → cond b (Some (object (member c.destination amount no_members)))
                (get_member q (as_members (group ∷ groups)))
                ≡ at_source (is_source q (c ∷ costs)) (listed (own q (c ∷ costs)))
            at true e = here no_members e (alone (as_members (group ∷ groups))
                (above c.source group groups from f order) (below c.source))
            at false e = other (as_members (group ∷ groups)) e (below q)

-- ---- the groups of the map

-- the members of a source have its costs as they stand
source_listed : (net metric : Name) (rows : Rows) (src : Name) → AreGood rows
    → members_from rows net metric src ≡ listed (own src (costs_within rows (span.CostsIn net metric)))
source_listed net metric rows src good =
    named-rising (λ dst. number_data (cost_of rows net metric src dst)) (destinations_of rows net metric src)
    (destinations_rise net metric src rows good.sorted)
    ∙ (ap members_in_order (costs_told number_data net metric src rows rows (all_told rows good.sorted)
    (all_taken rows rows good (all_told rows good.sorted)))
    ∙ ap listed (sym (costs_from net metric src rows)))

-- and so has its group
group_listed : (net metric : Name) (rows : Rows) (src : Name) → AreGood rows
    → group_object (cost_face net metric rows) src
    ≡ object (listed (own src (costs_within rows (span.CostsIn net metric))))
group_listed net metric rows src good = ap object (source_listed net metric rows src good)

-- which are those of its own span
pub members_listed : (net metric : Name) (rows : Rows) (src : Name) → AreGood rows
    → members_from rows net metric src ≡ listed (costs_within rows (span.CostsFrom net metric src))
members_listed net metric rows src good = source_listed net metric rows src good
    ∙ ap listed (costs_from net metric src rows)

-- the groups of the map are the costs of its metric, gathered by their source
pub groups_gathered : (net metric : Name) (rows : Rows) → AreGood rows
    → groups_of rows net metric ≡ as_members (gathered (costs_within rows (span.CostsIn net metric)))
groups_gathered net metric rows good =
    same_members _ _ (in_order-named (group_object (cost_face net metric rows)) (sources_of rows net metric))
    (ordered costs stand)
    (λ q. found-named (group_object (cost_face net metric rows)) (sources_of rows net metric) q
    ∙ (same q ∙ sym (found costs stand q)))
  where
    costs : List Cost
    costs = costs_within rows (span.CostsIn net metric)

    stand : StandBySource costs
    stand = stand_by_source net metric rows good.sorted

    same : (q : Name) → cond (list_any (same_name q) (sources_of rows net metric))
        (Some (group_object (cost_face net metric rows) q)) None
        ≡ at_source (is_source q costs) (listed (own q costs))
    same q =
        let sources : list_any (same_name q) (sources_of rows net metric) ≡ is_source q costs =
        any-set_of q _ ∙ ap (list_any (same_name q))
        (sym (sources_given net metric rows (all_taken rows rows good (all_told rows good.sorted)))) in
        λ i. cond (sources i) (Some (group_listed net metric rows q good i)) None
