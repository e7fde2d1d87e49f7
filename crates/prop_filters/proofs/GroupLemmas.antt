-- The members and the groups of a filtered map, as loops put them.
use Rattle.std.proofs.Common.{◌≡◌, refl}
use Rattle.std.specs.Prelude.{Bool, true, false, cond, List, [], ◌∷◌, Option, Some, None, fold, codes}
use Rattle.serde_json.specs.Data.{Data, Members, no_members, object}
use Rattle.json_tree.specs.Document.{with_member, object_of}
use Rattle.alto_rows.specs.Rows.{Rows}
use Rattle.alto_maps.specs.Shape.{Name}
use Rattle.prop_docs.specs.Ask.{PropAskData}
use Rattle.prop_docs.specs.PropertyMap.{prop_meta}
use Rattle.prop_filters.specs.Filter.{filtered_properties, groups_object, object_if_any}

-- members with others put one after another
abbrev pub with_members : Members → List (Name × Data) → Members
with_members before ms = fold (λ (others : Members) (m : Name × Data). with_member m.0 m.1 others) before ms

-- what a loop over members comes to: the object of those before and of these, where there are any
abbrev pub outcome : Bool → Members → List (Name × Data) → Option Data
outcome any before [] = cond any (Some (object before)) None
outcome any before (m ∷ ms) = outcome true (with_member m.0 m.1 before) ms

outcome_onto : (before : Members) (ms : List (Name × Data))
    → outcome true before ms ≡ Some (object (with_members before ms))
outcome_onto before [] = refl
outcome_onto before (m ∷ ms) = outcome_onto (with_member m.0 m.1 before) ms

-- from the start it is the object of all
pub outcome_of_all : (ms : List (Name × Data)) → outcome false no_members ms ≡ object_if_any ms
outcome_of_all [] = refl
outcome_of_all (m ∷ ms) = outcome_onto (with_member m.0 m.1 no_members) ms

-- the meta and the groups are the map
pub map_shown : (rows : Rows) (net : Name) (ask : PropAskData) (meta groups : Data) → meta ≡ prop_meta net rows
    → groups ≡ groups_object rows net ask
    → object_of ((codes "meta", meta) ∷ (codes "property-map", groups) ∷ []) ≡ filtered_properties rows net ask
unfolding filtered_properties
map_shown rows net ask meta groups told shown =
    λ i. object_of ((codes "meta", told i) ∷ (codes "property-map", shown i) ∷ [])
