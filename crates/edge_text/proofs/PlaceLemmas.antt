-- The groups that the places of keys touch are their pairs, gathered by source.
use Rattle.std.proofs.Common.{◌≡◌, ℕ, refl, ap, sym, ◌∙◌}
use Rattle.std.specs.Prelude.{Bool, true, false, ◌&&◌, ◌||◌, List, [], ◌∷◌, Option, Some, None, is_some, map}
use Rattle.std.specs.Prelude.{option_map, if◌then◌else◌}
use Rattle.std.specs.List.{AllByRecursion, cons_option, filter_map, list_any}
use Rattle.std.specs.List.Sorted.{IsStrictlySortedBy}
use Rattle.alto_rows.specs.declared.key.Key.{Key}
use Rattle.alto_rows.specs.declared.key.Key.TheVariants as key
use Rattle.alto_rows.specs.declared.resource.Resource.TheVariants as resource
use Rattle.serde_json.specs.Data.{number, unsigned}
use Rattle.alto_rows.specs.Good.{AreGood}
use Rattle.alto_rows.specs.Order.{key_cmp}
use Rattle.alto_rows.specs.Rows.{Rows, value_of}
use Rattle.alto_maps.specs.Shape.{Name, member_in, same_name, stands}
use Rattle.alto_maps.specs.Places.{group_of, member_of, set_of, touched_groups, touched_members, touches_meta}
use Rattle.alto_maps.specs.Touched.{Touched, touched_parts}
use Rattle.alto_maps.specs.declared.place.Place.{Place}
use Rattle.alto_maps.specs.declared.place.Place.TheVariants as place
use Rattle.doc_pieces.proofs.NameLemmas.{set_of-rising}
use Rattle.alto_maps.proofs.SetLemmas.{one}
use Rattle.alto_rows.specs.Costs.{cost_of, number_at}
use Rattle.cost_docs.specs.CostMap.{cost_face, cost_place}
use Rattle.cost_docs.proofs.StandsLemmas.{member_is}
use Rattle.edge_text.specs.Pairs.{Pair, is_version_of, pair_in, pairs_of}
use Rattle.edge_text.proofs.GatheredLemmas.{destination_of, gathered, have_own, names_in, names_set, own, own_rise}
use Rattle.edge_text.proofs.GatheredLemmas.{sources_in}
use Rattle.edge_text.proofs.PairLemmas.{pairs_stand}

abbrev pub places_of : Name → Name → List Key → List Place
places_of net metric keys = map (cost_place net metric) keys

-- ---- key by key

pub group_touched : (net metric : Name) (keys : List Key)
    → filter_map group_of (places_of net metric keys) ≡ sources_in (pairs_of net metric keys)
group_touched net metric [] = refl
group_touched net metric (key.Cost of kind src dst ∷ keys) =
    by (same_name net of && same_name metric kind) (group_touched net metric keys)
  where
    by : (b : Bool) → filter_map group_of (places_of net metric keys) ≡ sources_in (pairs_of net metric keys)
        → cons_option (group_of (if b then place.Member src dst else place.Nowhere))
        (filter_map group_of (places_of net metric keys))
        ≡ sources_in (cons_option (if b then Some (src, dst) else None) (pairs_of net metric keys))
    by true below = ap (λ ns. src ∷ ns) below
    by false below = below
group_touched net metric (key.Seq (resource.Net of) ∷ keys) = by (same_name net of) (group_touched net metric keys)
  where
    by : (b : Bool) → filter_map group_of (places_of net metric keys) ≡ sources_in (pairs_of net metric keys)
        → cons_option (group_of (if b then place.Meta else place.Nowhere))
        (filter_map group_of (places_of net metric keys)) ≡ sources_in (pairs_of net metric keys)
    by true below = below
    by false below = below
group_touched net metric (_ ∷ keys) = group_touched net metric keys

member_touched : (net metric g : Name) (keys : List Key)
    → filter_map (member_of g) (places_of net metric keys) ≡ own g (pairs_of net metric keys)
member_touched net metric g [] = refl
member_touched net metric g (key.Cost of kind src dst ∷ keys) =
    by (same_name net of && same_name metric kind) (same_name g src) (member_touched net metric g keys)
  where
    by : (b : Bool) (c : Bool) → filter_map (member_of g) (places_of net metric keys) ≡ own g (pairs_of net metric keys)
        → cons_option (member_of g (if b then place.Member src dst else place.Nowhere))
        (filter_map (member_of g) (places_of net metric keys))
        ≡ own g (cons_option (if b then Some (src, dst) else None) (pairs_of net metric keys))
    by true c below = ap (cons_option (destination_of g (src, dst))) below
    by false c below = below
member_touched net metric g (key.Seq (resource.Net of) ∷ keys) =
    by (same_name net of) (member_touched net metric g keys)
  where
    by : (b : Bool) → filter_map (member_of g) (places_of net metric keys) ≡ own g (pairs_of net metric keys)
        → cons_option (member_of g (if b then place.Meta else place.Nowhere))
        (filter_map (member_of g) (places_of net metric keys)) ≡ own g (pairs_of net metric keys)
    by true below = below
    by false below = below
member_touched net metric g (_ ∷ keys) = member_touched net metric g keys

pub version_touched : (net metric : Name) (keys : List Key)
    → list_any touches_meta (places_of net metric keys) ≡ list_any (is_version_of net) keys
version_touched net metric [] = refl
version_touched net metric (key.Cost of kind src dst ∷ keys) =
    by (same_name net of && same_name metric kind) (version_touched net metric keys)
  where
    by : (b : Bool) → list_any touches_meta (places_of net metric keys) ≡ list_any (is_version_of net) keys
        → (touches_meta (if b then place.Member src dst else place.Nowhere)
        || list_any touches_meta (places_of net metric keys)) ≡ list_any (is_version_of net) keys
    by true below = below
    by false below = below
version_touched net metric (key.Seq (resource.Net of) ∷ keys) = by (same_name net of) (version_touched net metric keys)
  where
    by : (b : Bool) → list_any touches_meta (places_of net metric keys) ≡ list_any (is_version_of net) keys
        → (touches_meta (if b then place.Meta else place.Nowhere) || list_any touches_meta (places_of net metric keys))
        ≡ (b || list_any (is_version_of net) keys)
    by true below = refl
    by false below = below
version_touched net metric (_ ∷ keys) = version_touched net metric keys

-- ---- all groups

pub groups_are : (net metric : Name) (keys : List Key) → IsStrictlySortedBy key_cmp keys
    → touched_groups (places_of net metric keys) ≡ names_in (gathered (pairs_of net metric keys))
groups_are net metric keys rising =
    ap set_of (group_touched net metric keys)
    ∙ names_set (pairs_of net metric keys) (pairs_stand net metric keys rising)

members_are : (net metric g : Name) (keys : List Key) → IsStrictlySortedBy key_cmp keys
    → touched_members g (places_of net metric keys) ≡ own g (pairs_of net metric keys)
members_are net metric g keys rising =
    ap set_of (member_touched net metric g keys)
    ∙ set_of-rising (own g (pairs_of net metric keys))
    (own_rise g (pairs_of net metric keys) (pairs_stand net metric keys rising))

-- groups that have the members of their sources
as_own : (pairs : List Pair) (groups : List Touched) → AllByRecursion (λ group. group.1 ≡ own group.0 pairs) groups
    → groups ≡ map {B = Touched} (λ n. (n, own n pairs)) (names_in groups)
as_own pairs [] have = refl
as_own pairs (group ∷ groups) have = λ i. (group.0, have.0 i) ∷ as_own pairs groups have.1 i

pub parts_are : (net metric : Name) (keys : List Key) → IsStrictlySortedBy key_cmp keys
    → gathered (pairs_of net metric keys) ≡ touched_parts (places_of net metric keys)
parts_are net metric keys rising =
    as_own pairs (gathered pairs) (have_own pairs (pairs_stand net metric keys rising))
    ∙ λ i. map {B = Touched} (λ n. (n, sym (members_are net metric n keys rising) i))
    (sym (groups_are net metric keys rising) i)
  where
    pairs : List Pair
    pairs = pairs_of net metric keys

-- ---- a key of a cost in the metric

pub pair_is : (net metric of kind src dst : Name) (at : Key) → at ≡ key.Cost of kind src dst → same_name net of ≡ true
    → same_name metric kind ≡ true
    → pair_in net metric at ≡ Some (src, dst)
pair_is net metric of kind src dst at is e f = rw (is, e, f) refl

pub cost_is : (net metric of kind src dst : Name) (rows : Rows) (at : Key) → at ≡ key.Cost of kind src dst
    → same_name net of ≡ true → same_name metric kind ≡ true
    → number_at (value_of rows at) ≡ cost_of rows net metric src dst
cost_is net metric of kind src dst rows at is e f =
    ap (λ k. number_at (value_of rows k)) is
    ∙ λ i. number_at (value_of rows (key.Cost (sym (one net of e) i) (sym (one metric kind f) i) src dst))

-- a source that has a cost stands
pub cost_stands : (net metric src dst : Name) (rows : Rows) → AreGood rows
    → is_some (cost_of rows net metric src dst) ≡ true → stands (cost_face net metric rows) src ≡ true
cost_stands net metric src dst rows good some =
    by (stands (cost_face net metric rows) src) refl (cost_of rows net metric src dst)
    some (member_is net metric rows src dst good)
  where
    by : (s : Bool) → stands (cost_face net metric rows) src ≡ s → (o : Option ℕ) → is_some o ≡ true
        → member_in (cost_face net metric rows) src dst ≡ option_map (λ n. number (unsigned n)) o
        → stands (cost_face net metric rows) src ≡ true
    by true e o some is = e
    by false e None some is = cc
    by false e (Some n) some is = let both : None ≡ Some (number (unsigned n)) = rw e at is in cc
