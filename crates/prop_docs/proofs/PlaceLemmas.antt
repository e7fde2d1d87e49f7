-- Property maps of rows that differ by keys differ at the places of these keys alone.
use Rattle.std.proofs.Common.{◌≡◌, ℕ, refl, ap, sym, ◌∙◌}
use Rattle.std.proofs.lemmas.Cmp.{nat_list_eq_equiv}
use Rattle.std.specs.Prelude.{Bool, true, false, ◌++◌, List, [], ◌∷◌, map, Some, None, Ok, codes, decimal}
use Rattle.std.specs.BTreeMap.{is_at}
use Rattle.std.specs.List.{list_any}
use Rattle.serde_json.specs.Data.{Data, string}
use Rattle.json_tree.specs.Document.{array_of, with_member, object_of}
use Rattle.json_patch.specs.Operations.{replace, changed_at}
use Rattle.alto_rows.specs.declared.entity.Entity.{Entity}
use Rattle.alto_rows.specs.declared.key.Key.{Key}
use Rattle.alto_rows.specs.declared.key.Key.TheVariants as key
use Rattle.alto_rows.specs.declared.resource.Resource.TheVariants as resource
use Rattle.alto_rows.specs.declared.value.Value.{Value}
use Rattle.alto_rows.specs.declared.value.Value.TheVariants as value
use Rattle.alto_rows.specs.Entities.{entity_text}
use Rattle.alto_rows.specs.Good.{AreGood, Takes}
use Rattle.alto_rows.specs.Order.{key_cmp, same_name}
use Rattle.alto_rows.specs.Rows.{Rows, value_of}
use Rattle.alto_rows.specs.Touches.{touches}
use Rattle.alto_rows.specs.Versions.{tag_of, text_in, number_in}
use Rattle.alto_rows.proofs.OrderLemmas.{one_key}
use Rattle.alto_maps.specs.Differ.{is_plain}
use Rattle.alto_maps.specs.Places.{touches_meta, touches_group, touches_member}
use Rattle.alto_maps.specs.Shape.{Name}
use Rattle.alto_maps.specs.declared.place.Place.{Place}
use Rattle.alto_maps.specs.declared.place.Place.TheVariants as place
use Rattle.alto_maps.proofs.KeyLemmas.{untouched_key}
use Rattle.net_docs.specs.Differ.{DifferBy}
use Rattle.net_docs.proofs.ListedLemmas.{same_listed}
use Rattle.prop_docs.specs.Laws.{OtherKeysTouchNowhere, PropMapsDifferAtPlaces}
use Rattle.prop_docs.specs.PropertyMap.{first_data, is_text_of, prop_place, prop_shape, properties_of, property_in}
use Rattle.prop_docs.specs.PropertyMap.{value_data, value_in, values_of}
use Rattle.prop_docs.proofs.FitLemmas.{AllFit, good_fit}
use Rattle.prop_docs.proofs.ShownLemmas.{has_some, member_is, shown, stands_where}

-- ---- which keys touch a place

-- a key that doesn't touch a property map touches no place of it
pub nowhere : OtherKeysTouchNowhere
nowhere net (key.Prop of entity name) none = by (same_name net of) refl
  where
    by : (b : Bool) → same_name net of ≡ b → prop_place net (key.Prop of entity name) ≡ place.Nowhere
    by true e = let touched : touches (resource.Prop net) (key.Prop of entity name) ≡ true = rw e refl in cc
    by false e = rw e refl
nowhere net (key.Seq (resource.Net of)) none = rw none refl
nowhere net _ none = refl

-- so a key of a place that is tested for touches the map
touching : (net : Name) (touched : Place → Bool) (at : Key) → touched place.Nowhere ≡ false
    → touched (prop_place net at) ≡ true → touches (resource.Prop net) at ≡ true
touching net touched at none is = by (touches (resource.Prop net) at) refl
  where
    by : (b : Bool) → touches (resource.Prop net) at ≡ b → touches (resource.Prop net) at ≡ true
    by true e = e
    by false e = let both : touched place.Nowhere ≡ true = rw (nowhere net at e) at is in cc

-- a key whose place isn't among those of keys has the same value
same_value : (net : Name) (before later : Rows) (keys : List Key) (touched : Place → Bool)
    → DifferBy keys before later (resource.Prop net) → touched place.Nowhere ≡ false
    → list_any touched (map (prop_place net) keys) ≡ false → (at : Key) → touched (prop_place net at) ≡ true
    → value_of before at ≡ value_of later at
same_value net before later keys touched differ no_touch none at is =
    differ.same at (touching net touched at no_touch is)
    (untouched_key (λ a b. is_at (key_cmp a) b) one_key (prop_place net) touched at keys is none)

-- ---- the tag

-- the version of a map whose network map has this tag
abbrev tags_with : Name → List ℕ → Data
tags_with net tag = array_of (object_of ((codes "resource-id", string net) ∷ (codes "tag", string tag) ∷ []) ∷ [])

-- and its meta
abbrev meta_with : Name → List ℕ → Data
meta_with net tag = object_of ((codes "dependent-vtags", tags_with net tag) ∷ [])

-- a meta with another tag
meta_tagged : (net tag next : Name)
    → changed_at prop_shape.path (replace (tags_with net next)) (Some (meta_with net tag))
    ≡ Ok (Some (meta_with net next))
unfolding with_member
meta_tagged net tag next = refl

-- the tag stays where no key touches it
same_tag : (net : Name) (before later : Rows) (keys : List Key) → DifferBy keys before later (resource.Prop net)
    → list_any touches_meta (map (prop_place net) keys) ≡ false
    → tag_of before (resource.Net net) ≡ tag_of later (resource.Net net)
same_tag net before later keys differ none =
    let version = same_value net before later keys touches_meta differ refl none (key.Seq (resource.Net net))
    (rw (nat_list_eq_equiv.refl net) refl) in
    λ i. text_in (differ.epoch i) ++ codes "-" ++ decimal (number_in (version i))

-- ---- the groups and their members

-- a row whose key doesn't touch a group gives its entity no property
no_property : (net text : Name) (row : Key × Value) → touches_group text (prop_place net row.0) ≡ false
    → property_in net text row ≡ None
no_property net text (key.Prop of entity name, v) none =
    by (same_name net of) (same_name text (entity_text net entity)) refl refl
  where
    by : (a b : Bool) → same_name net of ≡ a → same_name text (entity_text net entity) ≡ b
        → property_in net text (key.Prop of entity name, v) ≡ None
    by true true e f = let is : touches_group text (prop_place net (key.Prop of entity name)) ≡ true = rw e f in cc
    by true false e f = rw (e, f) refl
    by false b e f = rw e refl
no_property net text _ none = refl

-- the properties of an entity stay where no key touches its group
same_properties : (net text : Name) (before later : Rows) (keys : List Key)
    → DifferBy keys before later (resource.Prop net)
    → list_any (touches_group text) (map (prop_place net) keys) ≡ false
    → properties_of before net text ≡ properties_of later net text
same_properties net text before later keys differ none =
    same_listed (property_in net text) (λ at. touches_group text (prop_place net at)) (no_property net text) before
    later differ.good.sorted differ.good_behind.sorted
    (same_value net before later keys (touches_group text) differ refl none)

-- a row whose key doesn't touch a member gives it no value
no_value : (net text name : Name) (row : Key × Value) → touches_member text name (prop_place net row.0) ≡ false
    → value_in net text name row ≡ None
no_value net text name (key.Prop of entity other, v) none =
    by (same_name net of) (same_name text (entity_text net entity)) (same_name name other) refl refl refl
  where
    by : (a b c : Bool) → same_name net of ≡ a → same_name text (entity_text net entity) ≡ b → same_name name other ≡ c
        → value_in net text name (key.Prop of entity other, v) ≡ None
    by true true true e f h = let is : touches_member text name (prop_place net (key.Prop of entity other)) ≡ true =
        rw (e, f, h) refl in cc
    by true true false e f h = rw (e, f, h) refl
    by true false c e f h = rw (e, f) refl
    by false b c e f h = rw e refl
no_value net text name _ none = refl

-- the values of a property stay where no key touches its place
same_values : (net text name : Name) (before later : Rows) (keys : List Key)
    → DifferBy keys before later (resource.Prop net)
    → list_any (touches_member text name) (map (prop_place net) keys) ≡ false
    → values_of before net text name ≡ values_of later net text name
same_values net text name before later keys differ none =
    same_listed (value_in net text name) (λ at. touches_member text name (prop_place net at)) (no_value net text name)
    before later differ.good.sorted differ.good_behind.sorted
    (same_value net before later keys (touches_member text name) differ refl none)

-- ---- values are texts and numbers

-- what the row of a property may hold is plain
takes_plain : (net name : Name) (entity : Entity) (v : Value) → Takes (key.Prop net entity name) v
    → is_plain (value_data v) ≡ true
takes_plain net name entity (value.Num n) h = refl
takes_plain net name entity (value.Text text) h = refl
takes_plain net name entity value.Unit h = absurd h
takes_plain net name entity (value.Names anes) h = absurd h

-- rows each of which fits its key give plain values
first_plain : (net text name : Name) (rows : Rows) → AllFit rows → has_some (values_of rows net text name) ≡ true
    → is_plain (first_data (values_of rows net text name)) ≡ true
first_plain net text name [] fit some = cc
first_plain net text name ((key.Prop of entity other, v) ∷ rows) fit some =
    by (same_name net of) (is_text_of net text entity) (same_name name other) refl refl
    refl (first_plain net text name rows fit.1)
  where
    by : (a b c : Bool) → same_name net of ≡ a → is_text_of net text entity ≡ b → same_name name other ≡ c
        → (has_some (values_of rows net text name) ≡ true → is_plain (first_data (values_of rows net text name)) ≡ true)
        → is_plain (first_data (values_of ((key.Prop of entity other, v) ∷ rows) net text name)) ≡ true
    by true true true e f h below = rw (e, f, h) (takes_plain of other entity v fit.0.1)
    by true true false e f h below = rw (e, f, h) (below (rw (e, f, h) at some))
    by true false c e f h below = rw (e, f) (below (rw (e, f) at some))
    by false b c e f h below = rw e (below (rw e at some))
first_plain net text name (row ∷ rows) fit some = first_plain net text name rows fit.1 some

-- so a member is plain
plain_member : (net text name : Name) (rows : Rows) (d : Data) → AreGood rows
    → shown (values_of rows net text name) ≡ Some d → is_plain d ≡ true
plain_member net text name rows d good is = by (has_some (values_of rows net text name)) refl
  where
    by : (b : Bool) → has_some (values_of rows net text name) ≡ b → is_plain d ≡ true
    by true e =
        let one : Some (first_data (values_of rows net text name)) ≡ Some d = rw e at is in
        let same : first_data (values_of rows net text name) ≡ d = cc in
        rw (← same) (first_plain net text name rows (good_fit rows good) e)
    by false e = let one : None ≡ Some d = rw e at is in cc

-- ---- the maps

pub differ_at : PropMapsDifferAtPlaces
differ_at net before later keys differ = record {
  apart = refl;
  meta = λ none. ap (meta_with net) (same_tag net before later keys differ none);
  version = meta_tagged net (tag_of before (resource.Net net)) (tag_of later (resource.Net net));
  groups = λ g none.
      stands_where net before g
      ∙ (ap has_some (same_properties net g before later keys differ none) ∙ sym (stands_where net later g));
  members = λ g m none.
      member_is net before g m
      ∙ (ap shown (same_values net g m before later keys differ none) ∙ sym (member_is net later g m));
  plain_version = refl;
  plain = λ g m d is. plain_member net g m later d differ.good_behind (sym (member_is net later g m) ∙ is);
}
