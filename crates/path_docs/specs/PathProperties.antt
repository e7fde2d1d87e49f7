-- The second part of an answer (RFC 9275, section 7.2.6): the property map of the ANEs of the first part.
use Rattle.std.specs.Prelude.{ℕ, List, [], ◌∷◌, ◌++◌, Bool, true, Option, Some, None, map, codes}
use Rattle.std.specs.List.{flat_map}
use Rattle.serde_json.specs.Data.{Data, number, unsigned}
use Rattle.json_tree.specs.Document.{array_of, object_of}
use Rattle.alto_rows.specs.declared.key.Key.TheVariants as key
use Rattle.alto_rows.specs.declared.value.Value.{Value}
use Rattle.alto_rows.specs.declared.value.Value.TheVariants as value
use Rattle.alto_rows.specs.Rows.{Rows, value_of}
use Rattle.alto_maps.specs.Places.{set_of}
use Rattle.alto_maps.specs.Shape.{Name}
use Rattle.path_docs.specs.declared.ask.PathAsk.{PathAsk}
use Rattle.path_docs.specs.Ask.{bandwidth_name}
use Rattle.path_docs.specs.PathCosts.{anes_of, dsts_shown, path_tag, srcs_shown}

-- the distinct ANEs of the first part, in byte order
abbrev pub anes_shown : Rows → Name → PathAsk → List Name
anes_shown rows net ask =
    set_of
    (flat_map (λ src. flat_map (λ dst. anes_of rows net src dst) (dsts_shown rows net ask src))
    (srcs_shown rows net ask))

-- the entity that an ANE is (section 6.2.2), of the map that the second part is itself
abbrev pub ane_entity : Name → Name
ane_entity ane = codes ".ane:" ++ ane

-- the number that a row holds
abbrev pub number_at : Option Value → Option ℕ
number_at (Some (value.Num n)) = Some n
number_at _ = None

-- the bandwidth of an ANE, where it is set
abbrev pub bandwidth_of : Rows → Name → Name → Option ℕ
bandwidth_of rows net ane = number_at (value_of rows (key.AneProp net ane bandwidth_name))

-- a property as a member, where it is asked for and set
abbrev pub bandwidth_member : Bool → Option ℕ → List (Name × Data)
bandwidth_member true (Some n) = (bandwidth_name, number (unsigned n)) ∷ []
bandwidth_member _ _ = []

-- the properties of an ANE
abbrev pub ane_properties : Rows → Name → Bool → Name → Data
ane_properties rows net bandwidth ane = object_of (bandwidth_member bandwidth (bandwidth_of rows net ane))

-- the meta: the second part depends on the first
abbrev pub properties_meta : Rows → Name → ℕ → Data
properties_meta rows net n = object_of ((codes "dependent-vtags", array_of (path_tag rows net n ∷ [])) ∷ [])

-- the second part
abbrev pub path_properties : Rows → Name → PathAsk → ℕ → Data
path_properties rows net ask n =
    object_of
    ((codes "meta", properties_meta rows net n)
    ∷ (
      codes "property-map",
      object_of
          (map (λ ane. (ane_entity ane, ane_properties rows net ask.bandwidth ane)) (anes_shown rows net ask)),
    )
    ∷ [])
