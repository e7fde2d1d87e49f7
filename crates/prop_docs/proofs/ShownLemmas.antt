-- What a property map shows, as lists of what rows give it.
use Rattle.std.proofs.Common.{◌≡◌, refl, ap, ◌∙◌}
use Rattle.std.specs.Prelude.{Bool, true, false, ◌&&◌, cond, List, [], ◌∷◌, Option, Some, None}
use Rattle.std.specs.List.{filter_map, list_any}
use Rattle.serde_json.specs.Data.{Data}
use Rattle.alto_rows.specs.declared.key.Key.TheVariants as key
use Rattle.alto_rows.specs.declared.value.Value.{Value}
use Rattle.alto_rows.specs.Entities.{entity_text}
use Rattle.alto_rows.specs.Order.{same_name}
use Rattle.alto_rows.specs.Rows.{Rows}
use Rattle.alto_maps.specs.Shape.{Name, member_in, stands}
use Rattle.alto_maps.proofs.SetLemmas.{any-set_of}
use Rattle.prop_docs.specs.PropertyMap.{entity_in, first_data, is_text_of, prop_face, properties_of, values_of}

-- a list has something
abbrev pub has_some : {A : Type 0} → List A → Bool
has_some [] = false
has_some (first ∷ rest) = true

-- ---- the groups that stand

-- a row gives an entity of this text a property where it gives one to the entity of this text
texts_any : (net text : Name) (rows : Rows)
    → list_any (same_name text) (filter_map (entity_in net) rows) ≡ has_some (properties_of rows net text)
texts_any net text [] = refl
texts_any net text ((key.Prop of entity name, v) ∷ rows) =
    by (same_name net of) (same_name text (entity_text net entity)) refl refl (texts_any net text rows)
  where
    by : (a b : Bool) → same_name net of ≡ a → same_name text (entity_text net entity) ≡ b
        → list_any (same_name text) (filter_map (entity_in net) rows) ≡ has_some (properties_of rows net text)
        → list_any (same_name text) (filter_map (entity_in net) ((key.Prop of entity name, v) ∷ rows))
        ≡ has_some (properties_of ((key.Prop of entity name, v) ∷ rows) net text)
    by true true e f below = rw (e, f) refl
    by true false e f below = rw (e, f) below
    by false b e f below = rw e below
texts_any net text (_ ∷ rows) = texts_any net text rows

-- a group stands where its entity has a property
pub stands_where : (net : Name) (rows : Rows) (text : Name)
    → stands (prop_face net rows) text ≡ has_some (properties_of rows net text)
stands_where net rows text = any-set_of text (filter_map (entity_in net) rows) ∙ texts_any net text rows

-- ---- the members of a group

-- a property is there where it has a value
named_any : (net text name : Name) (rows : Rows)
    → list_any (same_name name) (properties_of rows net text) ≡ has_some (values_of rows net text name)
named_any net text name [] = refl
named_any net text name ((key.Prop of entity other, v) ∷ rows) =
    by (same_name net of) (is_text_of net text entity) (same_name name other) refl refl
    refl (named_any net text name rows)
  where
    by : (a b c : Bool) → same_name net of ≡ a → is_text_of net text entity ≡ b → same_name name other ≡ c
        → list_any (same_name name) (properties_of rows net text) ≡ has_some (values_of rows net text name)
        → list_any (same_name name) (properties_of ((key.Prop of entity other, v) ∷ rows) net text)
        ≡ has_some (values_of ((key.Prop of entity other, v) ∷ rows) net text name)
    by true true true e f h below = rw (e, f, h) refl
    by true true false e f h below = rw (e, f, h) below
    by true false c e f h below = rw (e, f) below
    by false b c e f h below = rw e below
named_any net text name (_ ∷ rows) = named_any net text name rows

-- the first of values as a member, where there is one
abbrev pub shown : List Value → Option Data
shown values = cond (has_some values) (Some (first_data values)) None

-- what has a name isn't empty
some_named : (name : Name) (names : List Name) → list_any (same_name name) names ≡ true → has_some names ≡ true
some_named name [] is = cc
some_named name (first ∷ names) is = refl

-- a member of the map is the value of the property, where it has one
pub member_is : (net : Name) (rows : Rows) (text name : Name)
    → member_in (prop_face net rows) text name ≡ shown (values_of rows net text name)
member_is net rows text name =
    rw (stands_where net rows text)
    (by (list_any (same_name name) (properties_of rows net text)) refl
    ∙ ap (λ there. cond there (Some (first_data (values_of rows net text name))) None)
    (named_any net text name rows))
  where
    by : (b : Bool) → list_any (same_name name) (properties_of rows net text) ≡ b
        → cond (has_some (properties_of rows net text) && list_any (same_name name) (properties_of rows net text))
        (Some (first_data (values_of rows net text name))) None
        ≡ cond (list_any (same_name name) (properties_of rows net text))
        (Some (first_data (values_of rows net text name))) None
    by true e = rw (some_named name (properties_of rows net text) e) refl
    by false e = by_none (has_some (properties_of rows net text)) e
      where
        by_none : (there : Bool) → list_any (same_name name) (properties_of rows net text) ≡ false
            → cond (there && list_any (same_name name) (properties_of rows net text))
            (Some (first_data (values_of rows net text name))) None
            ≡ cond (list_any (same_name name) (properties_of rows net text))
            (Some (first_data (values_of rows net text name))) None
        by_none true e = refl
        by_none false e = rw e refl
