-- Cost maps of rows that differ by keys differ at the places of these keys alone.
use Rattle.std.proofs.Common.{◌≡◌, ℕ, refl, ap, sym, ◌∙◌}
use Rattle.std.specs.Prelude.{Bool, true, false, ◌&&◌, ◌++◌, List, [], ◌∷◌, map, Option, Some, None, option_map, Ok}
use Rattle.std.specs.Prelude.{codes, decimal}
use Rattle.std.specs.BTreeMap.{is_at}
use Rattle.std.specs.List.{list_any}
use Rattle.serde_json.specs.Data.{Data, number, string, unsigned}
use Rattle.json_tree.specs.Document.{array_of, with_member, object_of}
use Rattle.json_patch.specs.Operations.{replace, changed_at}
use Rattle.alto_rows.specs.declared.key.Key.{Key}
use Rattle.alto_rows.specs.declared.key.Key.TheVariants as key
use Rattle.alto_rows.specs.declared.resource.Resource.TheVariants as resource
use Rattle.alto_rows.specs.declared.value.Value.{Value}
use Rattle.alto_rows.specs.Order.{key_cmp, same_name}
use Rattle.alto_rows.specs.Rows.{Rows, value_of}
use Rattle.alto_rows.specs.Touches.{touches}
use Rattle.alto_rows.specs.Versions.{tag_of, text_in, number_in}
use Rattle.alto_rows.proofs.OrderLemmas.{one_key}
use Rattle.alto_rows.proofs.TouchesLemmas.{same_name_itself}
use Rattle.alto_maps.specs.Differ.{is_plain}
use Rattle.alto_maps.specs.Places.{touches_meta, touches_group, touches_member}
use Rattle.alto_maps.specs.Shape.{Name}
use Rattle.alto_maps.specs.declared.place.Place.{Place}
use Rattle.alto_maps.specs.declared.place.Place.TheVariants as place
use Rattle.alto_maps.proofs.KeyLemmas.{untouched_key}
use Rattle.net_docs.specs.Differ.{DifferBy}
use Rattle.net_docs.proofs.ListedLemmas.{same_listed}
use Rattle.alto_rows.specs.Costs.{number_at}
use Rattle.cost_docs.specs.CostMap.{cost_place, cost_shape, cost_type, destination_in, destinations_of}
use Rattle.cost_docs.specs.Laws.{CostMapsDifferAtPlaces, OtherKeysTouchNowhere}
use Rattle.cost_docs.proofs.StandsLemmas.{has_any, member_is, stands_where}

-- ---- which keys touch a place

-- a key that doesn't touch a cost map touches no place of it
pub nowhere : OtherKeysTouchNowhere
nowhere net metric (key.Cost of kind src dst) none = by (same_name net of && same_name metric kind) refl
  where
    by : (b : Bool) → (same_name net of && same_name metric kind) ≡ b
        → cost_place net metric (key.Cost of kind src dst) ≡ place.Nowhere
    by true e = let touched : touches (resource.Cost net metric) (key.Cost of kind src dst) ≡ true = rw e refl in cc
    by false e = rw e refl
nowhere net metric (key.Seq (resource.Net of)) none = rw none refl
nowhere net metric _ none = refl

-- so a key of a place that is tested for touches the map
touching : (net metric : Name) (touched : Place → Bool) (at : Key) → touched place.Nowhere ≡ false
    → touched (cost_place net metric at) ≡ true
    → touches (resource.Cost net metric) at ≡ true
touching net metric touched at none is = by (touches (resource.Cost net metric) at) refl
  where
    by : (b : Bool) → touches (resource.Cost net metric) at ≡ b → touches (resource.Cost net metric) at ≡ true
    by true e = e
    by false e = let both : touched place.Nowhere ≡ true = rw (nowhere net metric at e) at is in cc

-- a key whose place isn't among those of keys has the same value
same_value : (net metric : Name) (before later : Rows) (keys : List Key) (touched : Place → Bool)
    → DifferBy keys before later (resource.Cost net metric)
    → touched place.Nowhere ≡ false → list_any touched (map (cost_place net metric) keys) ≡ false
    → (at : Key) → touched (cost_place net metric at) ≡ true → value_of before at ≡ value_of later at
same_value net metric before later keys touched differ no_touch none at is =
    differ.same at (touching net metric touched at no_touch is)
    (untouched_key (λ a b. is_at (key_cmp a) b) one_key (cost_place net metric) touched at keys is none)

-- ---- the tag

-- the version tags with this tag of the network map
abbrev tags_with : Name → Name → Data
tags_with net tag = array_of (object_of ((codes "resource-id", string net) ∷ (codes "tag", string tag) ∷ []) ∷ [])

-- the meta with this tag
abbrev meta_with : Name → Name → Name → Data
meta_with net metric tag =
    object_of ((codes "cost-type", cost_type metric (codes "numerical"))
    ∷ (codes "dependent-vtags", tags_with net tag) ∷ [])

-- a meta with another tag
meta_tagged : (net metric tag next : Name)
    → changed_at cost_shape.path (replace (tags_with net next)) (Some (meta_with net metric tag))
    ≡ Ok (Some (meta_with net metric next))
unfolding with_member
meta_tagged net metric tag next = refl

-- the tag stays where no key touches it
same_tag : (net metric : Name) (before later : Rows) (keys : List Key)
    → DifferBy keys before later (resource.Cost net metric)
    → list_any touches_meta (map (cost_place net metric) keys) ≡ false
    → tag_of before (resource.Net net) ≡ tag_of later (resource.Net net)
same_tag net metric before later keys differ none =
    let version = same_value net metric before later keys touches_meta differ refl none (key.Seq (resource.Net net))
    (rw (same_name_itself net) refl) in
    λ i. text_in (differ.epoch i) ++ codes "-" ++ decimal (number_in (version i))

-- ---- the groups

-- a destination is at its key's place
elsewhere : (net metric src : Name) (row : Key × Value) → touches_group src (cost_place net metric row.0) ≡ false
    → destination_in net metric src row ≡ None
elsewhere net metric src (key.Cost of kind from dst, v) none =
    by (same_name net of) (same_name metric kind) (same_name src from) refl refl refl
  where
    by : (a b c : Bool) → same_name net of ≡ a → same_name metric kind ≡ b → same_name src from ≡ c
        → destination_in net metric src (key.Cost of kind from dst, v) ≡ None
    by true true true e f h = let is : touches_group src (cost_place net metric (key.Cost of kind from dst)) ≡ true =
        rw (e, f, h) refl in cc
    by true true false e f h = rw (e, f, h) refl
    by true false c e f h = rw (e, f) refl
    by false b c e f h = rw e refl
elsewhere net metric src _ none = refl

-- the destinations of a source stay where no key touches its group
same_destinations : (net metric src : Name) (before later : Rows) (keys : List Key)
    → DifferBy keys before later (resource.Cost net metric)
    → list_any (touches_group src) (map (cost_place net metric) keys) ≡ false
    → destinations_of before net metric src ≡ destinations_of later net metric src
same_destinations net metric src before later keys differ none =
    same_listed (destination_in net metric src) (λ at. touches_group src (cost_place net metric at))
    (elsewhere net metric src) before later
    differ.good.sorted differ.good_behind.sorted (same_value net metric before later keys (touches_group src)
    differ refl none)

-- a cost is a number
plain_cost : (cost : Option ℕ) (d : Data) → option_map (λ n. number (unsigned n)) cost ≡ Some d → is_plain d ≡ true
plain_cost None d is = cc
plain_cost (Some n) d is = let same : number (unsigned n) ≡ d = cc in rw (← same) refl

-- ---- the maps

pub differ_at : CostMapsDifferAtPlaces
differ_at net metric before later keys differ = record {
  apart = refl;
  meta = λ none. ap (meta_with net metric) (same_tag net metric before later keys differ none);
  version = meta_tagged net metric (tag_of before (resource.Net net)) (tag_of later (resource.Net net));
  groups = λ g none.
      stands_where net metric g before
      ∙ (ap has_any (same_destinations net metric g before later keys differ none)
      ∙ sym (stands_where net metric g later));
  members = λ g m none.
      member_is net metric before g m differ.good
      ∙ (ap (λ v. option_map (λ n. number (unsigned n)) (number_at v))
      (same_value net metric before later keys (touches_member g m) differ refl none (key.Cost net metric g m)
      (rw (same_name_itself net, same_name_itself metric, same_name_itself g, same_name_itself m) refl))
      ∙ sym (member_is net metric later g m differ.good_behind));
  plain_version = refl;
  plain = λ g m d is. plain_cost (number_at (value_of later (key.Cost net metric g m)))
      d (sym (member_is net metric later g m differ.good_behind) ∙ is);
}
