-- Network maps of rows that differ by keys differ at the places of these keys alone.
use Rattle.std.proofs.Common.{◌≡◌, refl, ap, sym, ◌∙◌}
use Rattle.std.proofs.lemmas.Cmp.{nat_list_eq_equiv}
use Rattle.std.proofs.lemmas.Map.Views.{any-filter_same}
use Rattle.std.specs.Cmp.Lexicographic.{same_text}
use Rattle.std.specs.Prelude.{Bool, true, false, ◌&&◌, ◌++◌, cond, not, List, [], ◌∷◌, map, Option, Some, None, is_some}
use Rattle.std.specs.Prelude.{Ok, codes, decimal}
use Rattle.std.specs.BTreeMap.{is_at}
use Rattle.std.specs.List.{list_any}
use Rattle.serde_json.specs.Data.{Data, string}
use Rattle.json_tree.specs.Document.{array_of, with_member, object_of}
use Rattle.json_patch.specs.Operations.{replace, changed_at}
use Rattle.alto_rows.specs.declared.key.Key.{Key}
use Rattle.alto_rows.specs.declared.key.Key.TheVariants as key
use Rattle.alto_rows.specs.declared.resource.Resource.TheVariants as resource
use Rattle.alto_rows.specs.declared.value.Value.{Value}
use Rattle.alto_rows.specs.Good.{AreGood}
use Rattle.alto_rows.specs.Order.{key_cmp, same_name}
use Rattle.alto_rows.specs.Rows.{Rows, value_of}
use Rattle.alto_rows.specs.Touches.{touches}
use Rattle.alto_rows.specs.Versions.{tag_of, text_in, number_in}
use Rattle.alto_rows.proofs.OrderLemmas.{one_key}
use Rattle.alto_maps.specs.Differ.{is_plain}
use Rattle.alto_maps.specs.Places.{touches_meta, touches_group, touches_member}
use Rattle.alto_maps.specs.Shape.{Name, member_in}
use Rattle.alto_maps.specs.declared.place.Place.{Place}
use Rattle.alto_maps.specs.declared.place.Place.TheVariants as place
use Rattle.alto_maps.proofs.KeyLemmas.{untouched_key}
use Rattle.net_docs.specs.Differ.{DifferBy}
use Rattle.net_docs.specs.Laws.{MapsDifferAtPlaces, OtherKeysTouchNowhere}
use Rattle.net_docs.specs.NetworkMap.{families, family, is_empty, net_face, net_place, net_shape, pids_of}
use Rattle.net_docs.specs.NetworkMap.{prefix_listed, prefixes_of}
use Rattle.net_docs.proofs.ListedLemmas.{same_listed}
use Rattle.net_docs.proofs.StandsLemmas.{stands_where, listed_stands}

-- ---- which keys touch a place

-- a key that doesn't touch a network map touches no place of it
pub nowhere : OtherKeysTouchNowhere
nowhere net (key.Pid of pid) none = by (same_name net of) refl
  where
    by : (b : Bool) → same_name net of ≡ b → net_place net (key.Pid of pid) ≡ place.Nowhere
    by true e = let touched : touches (resource.Net net) (key.Pid of pid) ≡ true = rw e refl in cc
    by false e = rw e refl
nowhere net (key.Prefix of pid prefix) none = by (same_name net of) refl
  where
    by : (b : Bool) → same_name net of ≡ b → net_place net (key.Prefix of pid prefix) ≡ place.Nowhere
    by true e = let touched : touches (resource.Net net) (key.Prefix of pid prefix) ≡ true = rw e refl in cc
    by false e = rw e refl
nowhere net (key.Seq (resource.Net of)) none = rw none refl
nowhere net _ none = refl

-- so a key of a place that is tested for touches the map
touching : (net : Name) (touched : Place → Bool) (at : Key) → touched place.Nowhere ≡ false
    → touched (net_place net at) ≡ true → touches (resource.Net net) at ≡ true
touching net touched at none is = by (touches (resource.Net net) at) refl
  where
    by : (b : Bool) → touches (resource.Net net) at ≡ b → touches (resource.Net net) at ≡ true
    by true e = e
    by false e = let both : touched place.Nowhere ≡ true = rw (nowhere net at e) at is in cc

-- a key whose place isn't among those of keys has the same value
same_value : (net : Name) (before later : Rows) (keys : List Key) (touched : Place → Bool)
    → DifferBy keys before later (resource.Net net) → touched place.Nowhere ≡ false
    → list_any touched (map (net_place net) keys) ≡ false → (at : Key) → touched (net_place net at) ≡ true
    → value_of before at ≡ value_of later at
same_value net before later keys touched differ no_touch none at is =
    differ.same at (touching net touched at no_touch is)
    (untouched_key (λ a b. is_at (key_cmp a) b) one_key (net_place net) touched at keys is none)

-- ---- the tag

-- a meta with another tag
meta_tagged : (net tag next : Name)
    → changed_at net_shape.path (replace (string next))
    (Some (object_of ((codes "vtag", object_of ((codes "resource-id", string net) ∷ (codes "tag", string tag) ∷ []))
    ∷ [])))
    ≡ Ok (Some
    (object_of ((codes "vtag", object_of ((codes "resource-id", string net) ∷ (codes "tag", string next) ∷ []))
    ∷ [])))
unfolding with_member
meta_tagged net tag next = refl

itself : (name : Name) → same_name name name ≡ true
itself name = nat_list_eq_equiv.refl name

-- the tag stays where no key touches it
same_tag : (net : Name) (before later : Rows) (keys : List Key) → DifferBy keys before later (resource.Net net)
    → list_any touches_meta (map (net_place net) keys) ≡ false
    → tag_of before (resource.Net net) ≡ tag_of later (resource.Net net)
same_tag net before later keys differ none =
    let version = same_value net before later keys touches_meta differ refl none (key.Seq (resource.Net net))
    (rw (itself net) refl) in
    λ i. text_in (differ.epoch i) ++ codes "-" ++ decimal (number_in (version i))

-- ---- the prefixes of a family

-- what a row lists is at its key's place
elsewhere : (net pid kind : Name) (row : Key × Value) → touches_member pid kind (net_place net row.0) ≡ false
    → prefix_listed net pid kind row ≡ None
elsewhere net pid kind (key.Prefix of owner prefix, v) none =
    by (same_name net of) (same_name pid owner && same_name kind (family prefix.addr)) refl refl
  where
    by : (a b : Bool) → same_name net of ≡ a → (same_name pid owner && same_name kind (family prefix.addr)) ≡ b
        → prefix_listed net pid kind (key.Prefix of owner prefix, v) ≡ None
    by true true e f = let is : touches_member pid kind (net_place net (key.Prefix of owner prefix)) ≡ true = rw e f in
        cc
    by true false e f = rw (e, f) refl
    by false b e f = rw e refl
elsewhere net pid kind _ none = refl

-- a family's texts stay where no key touches its place
same_texts : (net pid kind : Name) (before later : Rows) (keys : List Key)
    → DifferBy keys before later (resource.Net net)
    → list_any (touches_member pid kind) (map (net_place net) keys) ≡ false
    → prefixes_of before net pid kind ≡ prefixes_of later net pid kind
same_texts net pid kind before later keys differ none =
    same_listed (prefix_listed net pid kind) (λ at. touches_member pid kind (net_place net at)) (elsewhere net pid kind)
    before later differ.good.sorted differ.good_behind.sorted
    (same_value net before later keys (touches_member pid kind) differ refl none)

-- the texts of a family as a member, where there are any
abbrev pub listed_member : Name → List Data → Option Data
listed_member kind texts = cond (not (is_empty texts) && list_any (same_name kind) families)
    (Some (array_of texts)) None

-- a member of the map is a family's texts, where there are any
pub member_is : (net : Name) (rows : Rows) (pid kind : Name) → AreGood rows
    → member_in (net_face net rows) pid kind ≡ listed_member kind (prefixes_of rows net pid kind)
member_is net rows pid kind good =
    rw (any-filter_same (same_name kind) (λ other. not (is_empty (prefixes_of rows net pid other)))
    (not (is_empty (prefixes_of rows net pid kind)))
    (λ other e. ap (λ x. not (is_empty (prefixes_of rows net pid x))) (sym (same_text kind other (sym e)))) families)
    (by (is_empty (prefixes_of rows net pid kind)) (list_any (same_name pid) (pids_of rows net))
    (listed_stands net pid kind rows good))
  where
    by : (empty stands : Bool) → (empty ≡ false → stands ≡ true)
        → cond (stands && (not empty && list_any (same_name kind) families))
        (Some (array_of (prefixes_of rows net pid kind))) None
        ≡ cond (not empty && list_any (same_name kind) families) (Some (array_of (prefixes_of rows net pid kind))) None
    by false stands h = rw (h refl) refl
    by true true h = refl
    by true false h = refl

-- it is an array
plain_member : (kind : Name) (texts : List Data) (d : Data) → listed_member kind texts ≡ Some d → is_plain d ≡ true
plain_member kind texts d is = by (not (is_empty texts) && list_any (same_name kind) families) refl
  where
    by : (b : Bool) → (not (is_empty texts) && list_any (same_name kind) families) ≡ b → is_plain d ≡ true
    by true e = let one : Some (array_of texts) ≡ Some d = rw e at is in let same : array_of texts ≡ d = cc in
        rw (← same) refl
    by false e = let one : None ≡ Some d = rw e at is in cc

-- ---- the maps

pub differ_at : MapsDifferAtPlaces
differ_at net before later keys differ = record {
  apart = refl;
  meta = λ none. ap (λ tag. object_of
      ((codes "vtag", object_of ((codes "resource-id", string net) ∷ (codes "tag", string tag) ∷ [])) ∷ []))
      (same_tag net before later keys differ none);
  version = meta_tagged net (tag_of before (resource.Net net)) (tag_of later (resource.Net net));
  groups = λ g none.
      stands_where net g before
      ∙ (ap is_some (same_value net before later keys (touches_group g) differ refl none (key.Pid net g)
      (rw (itself net) (itself g)))
      ∙ sym (stands_where net g later));
  members = λ g m none.
      member_is net before g m differ.good
      ∙ (ap (listed_member m) (same_texts net g m before later keys differ none)
      ∙ sym (member_is net later g m differ.good_behind));
  plain_version = refl;
  plain = λ g m d is. plain_member m (prefixes_of later net g m)
      d (sym (member_is net later g m differ.good_behind) ∙ is);
}
