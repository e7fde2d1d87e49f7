-- Forms worked out: a network map whose PIDs have prefixes.
use Rattle.std.proofs.Common.{◌≡◌, ℕ, refl}
use Rattle.std.specs.Prelude.{List, [], ◌∷◌, Ok, cond, codes}
use Rattle.serde_json.specs.Data.{Data, null, string, array}
use Rattle.serde_json.specs.View.{items_of}
use Rattle.json_tree.specs.Document.{with_member, object_of}
use Rattle.json_patch.specs.Merge.{merge_patched}
use Rattle.alto_maps.specs.Shape.{same_name, Shape, Face, document}
use Rattle.json_patch.specs.Operations.{add, remove, replace, operations_applied}
use Rattle.alto_maps.specs.Places.{set_of}
use Rattle.alto_maps.specs.MergeForm.{merge_form}
use Rattle.alto_maps.specs.OperationForm.{operation_form}
use Rattle.alto_maps.specs.declared.place.Place.{Place}
use Rattle.alto_maps.specs.declared.place.Place.TheVariants as place

abbrev net_shape : Shape
net_shape = record { section = codes "network-map"; path = codes "vtag" ∷ codes "tag" ∷ [] }

abbrev meta_with : List ℕ → Data
meta_with tag =
    object_of ((
      codes "vtag",
      object_of ((codes "resource-id", string (codes "metro"))
          ∷ (codes "tag", string tag) ∷ []),
    ) ∷ [])

abbrev prefixes : List ℕ → Data
prefixes text = array (items_of (string text ∷ []))

abbrev before : Face
before = record {
  meta = meta_with (codes "e1-2");
  version = string (codes "e1-2");
  groups = codes "east" ∷ codes "west" ∷ [];
  members = λ g. cond (same_name g (codes "east")) (codes "ipv4" ∷ []) (codes "ipv6" ∷ []);
  value = λ g m. prefixes (codes "one");
}

abbrev after : Face
after = record {
  meta = meta_with (codes "e1-3");
  version = string (codes "e1-3");
  groups = codes "east" ∷ codes "north" ∷ [];
  members = λ g. codes "ipv4" ∷ [];
  value = λ g m. cond (same_name g (codes "east")) (prefixes (codes "two")) (prefixes (codes "three"));
}

-- as keys give them, in the order of the keys
abbrev places : List Place
places =
    place.Group (codes "north") ∷ place.Group (codes "west")
    ∷ place.Member (codes "east") (codes "ipv4") ∷ place.Member (codes "north") (codes "ipv4")
    ∷ place.Member (codes "west") (codes "ipv6")
    ∷ place.Meta ∷ place.Nowhere ∷ []

merge_worked : merge_form net_shape after places
    ≡ object_of
    ((codes "meta", object_of ((codes "vtag", object_of ((codes "tag", string (codes "e1-3")) ∷ [])) ∷ []))
    ∷ (
      codes "network-map",
      object_of
          ((codes "east", object_of ((codes "ipv4", prefixes (codes "two")) ∷ []))
          ∷ (codes "north", object_of ((codes "ipv4", prefixes (codes "three")) ∷ []))
          ∷ (codes "west", null) ∷ []),
    ) ∷ [])
unfolding merge_form with_member set_of
merge_worked = refl

operations_worked : operation_form net_shape before after places
    ≡ record { path = codes "meta" ∷ codes "vtag" ∷ codes "tag" ∷ []; action = replace (string (codes "e1-3")) }
    ∷ record { path = codes "network-map" ∷ codes "east" ∷ codes "ipv4" ∷ []; action = add (prefixes (codes "two")) }
    ∷ record {
      path = codes "network-map" ∷ codes "north" ∷ [];
      action = add (object_of ((codes "ipv4", prefixes (codes "three")) ∷ []));
    }
    ∷ record { path = codes "network-map" ∷ codes "west" ∷ []; action = remove }
    ∷ []
unfolding operation_form with_member set_of
operations_worked = refl

leads_worked : operations_applied (operation_form net_shape before after places) (document net_shape before)
    ≡ Ok (document net_shape after)
unfolding document operation_form operations_applied with_member set_of
leads_worked = refl

merged_worked : merge_patched (document net_shape before) (merge_form net_shape after places) ≡ document net_shape after
unfolding document merge_form with_member set_of merge_patched
merged_worked = refl
