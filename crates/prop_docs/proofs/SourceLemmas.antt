-- What is looked up of a property map is what the map shows.
use Rattle.std.proofs.Common.{◌≡◌, refl, ap, sym, ◌∙◌, arith, lt-ltb}
use Rattle.std.specs.Prelude.{Bool, true, false, ◌&&◌, nat_lt, length, List, [], ◌∷◌, Option, Some, None, option_map}
use Rattle.std.specs.BTreeMap.{is_at}
use Rattle.std.specs.Map.{lookup}
use Rattle.alto_rows.specs.declared.entity.Entity.{Entity}
use Rattle.alto_rows.specs.declared.key.Key.{Key}
use Rattle.alto_rows.specs.declared.key.Key.TheVariants as key
use Rattle.alto_rows.specs.declared.span.Span.TheVariants as span
use Rattle.alto_rows.specs.declared.value.Value.{Value}
use Rattle.alto_names.specs.Name.{IsPropName}
use Rattle.alto_rows.specs.Good.{AreGood, Fits, IsEntity}
use Rattle.alto_rows.specs.Order.{key_cmp, entity_cmp, name_cmp, same_name}
use Rattle.alto_rows.specs.Rows.{Rows, value_of}
use Rattle.alto_rows.specs.Span.{rows_in, count_in, same_entity}
use Rattle.alto_rows.proofs.TouchesLemmas.{both_ties, same_name_ties}
use Rattle.alto_maps.specs.Shape.{Name, member_in, stands}
use Rattle.prop_docs.specs.PropertyMap.{is_text_of, prop_face, properties_of, value_data, values_of}
use Rattle.prop_docs.specs.Properties.{is_found}
use Rattle.prop_docs.proofs.FitLemmas.{AllFit, good_fit}
use Rattle.prop_docs.proofs.ShownLemmas.{has_some, member_is, shown, stands_where}

-- ---- an entity that isn't there

some_none : (net text : Name) (rows : Rows) → AllFit rows
    → ((other : Entity) → IsEntity other → is_text_of net text other ≡ is_found None other)
    → has_some (properties_of rows net text) ≡ false
some_none net text [] fit named = refl
some_none net text ((key.Prop of entity name, v) ∷ rows) fit named =
    by (same_name net of) refl (some_none net text rows fit.1 named)
  where
    by : (a : Bool) → same_name net of ≡ a → has_some (properties_of rows net text) ≡ false
        → has_some (properties_of ((key.Prop of entity name, v) ∷ rows) net text) ≡ false
    by true e below = rw (e, named entity fit.0.0.1) below
    by false e below = rw e below
some_none net text (_ ∷ rows) fit named = some_none net text rows fit.1 named

-- no group stands for a text that no entity has
pub none_stands : (rows : Rows) (net text : Name) → AreGood rows
    → ((other : Entity) → IsEntity other → is_text_of net text other ≡ is_found None other)
    → stands (prop_face net rows) text ≡ false
none_stands rows net text good named = stands_where net rows text ∙ some_none net text rows (good_fit rows good) named

-- ---- an entity that was found

some_found : (net text : Name) (one : Entity) (rows : Rows) → AllFit rows
    → ((other : Entity) → IsEntity other → is_text_of net text other ≡ is_found (Some one) other)
    → has_some (properties_of rows net text) ≡ has_some (rows_in rows (span.PropsOf net one))
some_found net text one [] fit named = refl
some_found net text one ((key.Prop of entity name, v) ∷ rows) fit named =
    by (same_name net of) (same_entity one entity) refl refl (some_found net text one rows fit.1 named)
  where
    by : (a b : Bool) → same_name net of ≡ a → same_entity one entity ≡ b
        → has_some (properties_of rows net text) ≡ has_some (rows_in rows (span.PropsOf net one))
        → has_some (properties_of ((key.Prop of entity name, v) ∷ rows) net text)
        ≡ has_some (rows_in ((key.Prop of entity name, v) ∷ rows) (span.PropsOf net one))
    by true true e f below = rw (e, named entity fit.0.0.1, f) refl
    by true false e f below = rw (e, named entity fit.0.0.1, f) below
    by false b e f below = rw e below
some_found net text one (_ ∷ rows) fit named = some_found net text one rows fit.1 named

-- a list has something where its length isn't zero
counted : {A : Type 0} (list : List A) → nat_lt 0 (length list) ≡ has_some list
counted [] = refl
counted (first ∷ rest) = lt-ltb 0 (length (first ∷ rest)) (omega arith)

-- its group stands where it has properties
pub found_stands : (rows : Rows) (net text : Name) (one : Entity) → AreGood rows
    → ((other : Entity) → IsEntity other → is_text_of net text other ≡ is_found (Some one) other)
    → nat_lt 0 (count_in rows (span.PropsOf net one)) ≡ stands (prop_face net rows) text
found_stands rows net text one good named =
    counted (rows_in rows (span.PropsOf net one)) ∙ (sym (some_found net text one rows (good_fit rows good) named)
    ∙ sym (stands_where net rows text))

-- the key of a property of an entity of a network
abbrev is_prop_key : Name → Entity → Name → Key → Bool
is_prop_key net one name (key.Prop of entity other) =
    same_name net of && (same_entity one entity && same_name name other)
is_prop_key net one name _ = false

-- it is the one that is looked for
prop_key : (net : Name) (one : Entity) (name : Name) (at : Key)
    → is_at (key_cmp (key.Prop net one name)) at ≡ is_prop_key net one name at
unfolding key_cmp
prop_key net one name (key.Prop of entity other) =
    both_ties (name_cmp net of) _ ∙ rw (
      both_ties (entity_cmp one entity) (name_cmp name other),
      same_name_ties net of,
      same_name_ties name other,
    ) refl
prop_key net one name _ = refl

-- the first value of a text's property is the one at the key of its entity
values_found : (net text name : Name) (one : Entity) (rows : Rows) → AllFit rows
    → ((other : Entity) → IsEntity other → is_text_of net text other ≡ is_found (Some one) other)
    → shown (values_of rows net text name) ≡ option_map value_data (lookup (is_prop_key net one name) rows)
values_found net text name one [] fit named = refl
values_found net text name one ((key.Prop of entity other, v) ∷ rows) fit named =
    by (same_name net of) (same_entity one entity) (same_name name other) refl refl
    refl (values_found net text name one rows fit.1 named)
  where
    by : (a b c : Bool) → same_name net of ≡ a → same_entity one entity ≡ b → same_name name other ≡ c
        → shown (values_of rows net text name) ≡ option_map value_data (lookup (is_prop_key net one name) rows)
        → shown (values_of ((key.Prop of entity other, v) ∷ rows) net text name)
        ≡ option_map value_data (lookup (is_prop_key net one name) ((key.Prop of entity other, v) ∷ rows))
    by true true true e f h below = rw (e, named entity fit.0.0.1, f, h) refl
    by true true false e f h below = rw (e, named entity fit.0.0.1, f, h) below
    by true false c e f h below = rw (e, named entity fit.0.0.1, f) below
    by false b c e f h below = rw e below
values_found net text name one (_ ∷ rows) fit named = values_found net text name one rows fit.1 named

-- a member of the group of an entity is the value at its key
pub member_found : (rows : Rows) (net text name : Name) (one : Entity) → AreGood rows
    → ((other : Entity) → IsEntity other → is_text_of net text other ≡ is_found (Some one) other)
    → option_map value_data (value_of rows (key.Prop net one name)) ≡ member_in (prop_face net rows) text name
member_found rows net text name one good named =
    ap (λ test. option_map value_data (lookup test rows)) (λ i at. prop_key net one name at i)
    ∙ (sym (values_found net text name one rows (good_fit rows good) named) ∙ sym (member_is net rows text name))

-- no member stands in a group that doesn't
pub none_member : (rows : Rows) (net text name : Name) → stands (prop_face net rows) text ≡ false
    → None ≡ member_in (prop_face net rows) text name
none_member rows net text name none = rw none refl

-- no property has a name of another alphabet
pub no_name : (rows : Rows) (net name : Name) (one : Entity) → AreGood rows → ¬ (IsPropName name)
    → value_of rows (key.Prop net one name) ≡ None
no_name rows net name one good not = by (value_of rows (key.Prop net one name)) refl
  where
    by : (found : Option Value) → value_of rows (key.Prop net one name) ≡ found
        → value_of rows (key.Prop net one name) ≡ None
    by None e = e
    by (Some v) e = let fits : Fits (key.Prop net one name) v = rw e at (good.fit (key.Prop net one name)) in
        absurd (not fits.0.2)
