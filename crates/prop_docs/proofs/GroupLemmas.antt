-- The properties of an entity, as its group shows them.
use Rattle.std.proofs.Common.{◌≡◌, refl, ap, sym, ◌∙◌}
use Rattle.std.proofs.lemmas.Cmp.{tied_itself, nat_list_cmp_total}
use Rattle.std.specs.Prelude.{Bool, true, false, List, [], ◌∷◌, map, Some, None, if◌then◌else◌}
use Rattle.std.specs.List.{AllByRecursion}
use Rattle.std.specs.List.Sorted.{IsStrictlySortedBy}
use Rattle.std.specs.declared.cmp.Ordering.TheVariants.{Less}
use Rattle.serde_json.specs.Data.{Data, null}
use Rattle.json_tree.specs.Document.{object_of}
use Rattle.alto_rows.specs.declared.entity.Entity.{Entity}
use Rattle.alto_rows.specs.declared.key.Key.TheVariants as key
use Rattle.alto_rows.specs.Good.{IsEntity}
use Rattle.alto_rows.specs.Order.{key_cmp, name_cmp, same_name}
use Rattle.alto_rows.specs.Rows.{Rows, AreSorted}
use Rattle.alto_rows.specs.Span.{same_entity}
use Rattle.alto_rows.proofs.OrderLemmas.{entity_cmp_total}
use Rattle.alto_rows.proofs.RowsLemmas.{ArePast, past_first, sorted_rest}
use Rattle.alto_rows.proofs.TouchesLemmas.{one_name, same_name_itself}
use Rattle.alto_maps.specs.Shape.{Name, group_object}
use Rattle.prop_docs.specs.PropertyMap.{first_data, is_text_of, prop_face, properties_of, value_data, values_of}
use Rattle.prop_docs.specs.Properties.{NamedValue, is_found, names_of, props_object, props_of, props_shown}
use Rattle.prop_docs.specs.Properties.{shown_values}
use Rattle.prop_docs.proofs.FitLemmas.{AllFit}
use Rattle.prop_docs.proofs.TextLemmas.{one_entity}

-- ---- by the text, and by the entity that has it

-- no text is that of an entity that isn't there
pub props_none : (net text : Name) (rows : Rows) → AllFit rows
    → ((other : Entity) → IsEntity other → is_text_of net text other ≡ is_found None other)
    → props_shown rows net text ≡ []
props_none net text [] keys named = refl
props_none net text ((key.Prop of entity name, v) ∷ rows) keys named =
    by (same_name net of) refl (props_none net text rows keys.1 named)
  where
    by : (a : Bool) → same_name net of ≡ a → props_shown rows net text ≡ []
        → props_shown ((key.Prop of entity name, v) ∷ rows) net text ≡ []
    by true e below = rw (e, named entity keys.0.0.1) below
    by false e below = rw e below
props_none net text (_ ∷ rows) keys named = props_none net text rows keys.1 named

-- the properties of the entity that has a text are those of the text
pub props_found : (net text : Name) (one : Entity) (rows : Rows) → AllFit rows
    → ((other : Entity) → IsEntity other → is_text_of net text other ≡ is_found (Some one) other)
    → props_of rows net one ≡ props_shown rows net text
props_found net text one [] keys named = refl
props_found net text one ((key.Prop of entity name, v) ∷ rows) keys named =
    by (same_name net of) (same_entity one entity) refl refl (props_found net text one rows keys.1 named)
  where
    by : (a b : Bool) → same_name net of ≡ a → same_entity one entity ≡ b
        → props_of rows net one ≡ props_shown rows net text
        → props_of ((key.Prop of entity name, v) ∷ rows) net one
        ≡ props_shown ((key.Prop of entity name, v) ∷ rows) net text
    by true true e f below = rw (e, named entity keys.0.0.1, f)
        (ap (λ (more : List NamedValue). (name, v) ∷ more) below)
    by true false e f below = rw (e, named entity keys.0.0.1, f) below
    by false b e f below = rw e below
props_found net text one (_ ∷ rows) keys named = props_found net text one rows keys.1 named

-- ---- the names rise

-- of two properties of an entity the keys stand as the names
prop_cmp : (net : Name) (one : Entity) (low high : Name)
    → key_cmp (key.Prop net one low) (key.Prop net one high) ≡ name_cmp low high
unfolding key_cmp
prop_cmp net one low high = rw (tied_itself nat_list_cmp_total net, tied_itself entity_cmp_total one) refl

-- the names of properties behind a property's key are behind its name
names_behind : (net : Name) (one : Entity) (low : Name) (rows : Rows) → ArePast (key.Prop net one low) rows
    → AllByRecursion (λ other. name_cmp low other ≡ Less) (names_of (props_of rows net one))
names_behind net one low [] past = tt
names_behind net one low ((key.Prop of entity name, v) ∷ rows) past =
    by (same_name net of) (same_entity one entity) refl refl (names_behind net one low rows past.1)
  where
    by : (a b : Bool) → same_name net of ≡ a → same_entity one entity ≡ b
        → AllByRecursion (λ other. name_cmp low other ≡ Less) (names_of (props_of rows net one))
        → AllByRecursion (λ other. name_cmp low other ≡ Less)
        (names_of (props_of ((key.Prop of entity name, v) ∷ rows) net one))
    by true true e f below = rw (e, f) (
      sym (prop_cmp net one low name)
          ∙ (rw (← one_name net of e, ← one_entity one entity f) at past.0),
      below,
    )
    by true false e f below = rw (e, f) below
    by false b e f below = rw e below
names_behind net one low (_ ∷ rows) past = names_behind net one low rows past.1

-- the names of an entity's properties rise
pub props_rise : (net : Name) (one : Entity) (rows : Rows) → AreSorted rows
    → IsStrictlySortedBy name_cmp (names_of (props_of rows net one))
unfolding IsStrictlySortedBy
props_rise net one [] sorted = tt
props_rise net one ((key.Prop of entity name, v) ∷ rows) sorted =
    by (same_name net of) (same_entity one entity) refl
    refl (props_rise net one rows (sorted_rest (key.Prop of entity name, v) rows sorted))
  where
    by : (a b : Bool) → same_name net of ≡ a → same_entity one entity ≡ b
        → IsStrictlySortedBy name_cmp (names_of (props_of rows net one))
        → IsStrictlySortedBy name_cmp (names_of (props_of ((key.Prop of entity name, v) ∷ rows) net one))
    by true true e f below =
        rw (e, f) (
          names_behind net one name rows (rw (← one_name net of e, ← one_entity one entity f)
              at (past_first (key.Prop of entity name, v) rows sorted)),
          below,
        )
    by true false e f below = rw (e, f) below
    by false b e f below = rw e below
props_rise net one (first ∷ rows) sorted = props_rise net one rows (sorted_rest first rows sorted)

-- ---- the group

-- the value of the first property of this name
abbrev pub value_named : List NamedValue → Name → Data
value_named [] name = null
value_named (prop ∷ props) name = if same_name name prop.0 then value_data prop.1 else value_named props name

-- the names that a group has are those of the properties
names_shown : (net text : Name) (rows : Rows) → properties_of rows net text ≡ names_of (props_shown rows net text)
names_shown net text [] = refl
names_shown net text ((key.Prop of entity name, v) ∷ rows) =
    by (same_name net of) (is_text_of net text entity) refl refl (names_shown net text rows)
  where
    by : (a b : Bool) → same_name net of ≡ a → is_text_of net text entity ≡ b
        → properties_of rows net text ≡ names_of (props_shown rows net text)
        → properties_of ((key.Prop of entity name, v) ∷ rows) net text
        ≡ names_of (props_shown ((key.Prop of entity name, v) ∷ rows) net text)
    by true true e f below = rw (e, f) (ap (λ (more : List Name). name ∷ more) below)
    by true false e f below = rw (e, f) below
    by false b e f below = rw e below
names_shown net text (_ ∷ rows) = names_shown net text rows

-- and the values are theirs
values_shown : (net text name : Name) (rows : Rows)
    → first_data (values_of rows net text name) ≡ value_named (props_shown rows net text) name
values_shown net text name [] = refl
values_shown net text name ((key.Prop of entity other, v) ∷ rows) =
    by (same_name net of) (is_text_of net text entity) (same_name name other) refl refl
    refl (values_shown net text name rows)
  where
    by : (a b c : Bool) → same_name net of ≡ a → is_text_of net text entity ≡ b → same_name name other ≡ c
        → first_data (values_of rows net text name) ≡ value_named (props_shown rows net text) name
        → first_data (values_of ((key.Prop of entity other, v) ∷ rows) net text name)
        ≡ value_named (props_shown ((key.Prop of entity other, v) ∷ rows) net text) name
    by true true true e f h below = rw (e, f, h) refl
    by true true false e f h below = rw (e, f, h) below
    by true false c e f h below = rw (e, f) below
    by false b c e f h below = rw e below
values_shown net text name (_ ∷ rows) = values_shown net text name rows

-- a lesser name is another
lesser_other : (low high : Name) → name_cmp low high ≡ Less → same_name high low ≡ false
lesser_other low high less = by (same_name high low) refl
  where
    by : (b : Bool) → same_name high low ≡ b → same_name high low ≡ false
    by true e = let no : name_cmp low low ≡ Less = rw (one_name high low e) at less in
        let same = tied_itself nat_list_cmp_total low in cc
    by false e = e

-- names, each with its value
abbrev pub named : (Name → Data) → List Name → List (Name × Data)
named value names = map (λ name. (name, value name)) names

-- names behind a property's have the values that they have without it
values_behind : (prop : NamedValue) (props : List NamedValue) (names : List Name)
    → AllByRecursion (λ other. name_cmp prop.0 other ≡ Less) names
    → named (value_named (prop ∷ props)) names ≡ named (value_named props) names
values_behind prop props [] behind = refl
values_behind prop props (name ∷ names) behind =
    rw (lesser_other prop.0 name behind.0) (ap (λ (more : List (Name × Data)). (name, value_named props name) ∷ more)
    (values_behind prop props names behind.1))

-- properties whose names rise are found by their names
pub found_by_name : (props : List NamedValue) → IsStrictlySortedBy name_cmp (names_of props)
    → shown_values props ≡ named (value_named props) (names_of props)
unfolding IsStrictlySortedBy
found_by_name [] rise = refl
found_by_name (prop ∷ props) rise =
    rw (same_name_itself prop.0)
    (ap (λ (more : List (Name × Data)). (prop.0, value_data prop.1) ∷ more) (found_by_name props rise.1
    ∙ sym (values_behind prop props (names_of props) rise.0)))

-- the object of the properties of a text is its group
pub group_shown : (rows : Rows) (net text : Name) → IsStrictlySortedBy name_cmp (names_of (props_shown rows net text))
    → props_object (props_shown rows net text) ≡ group_object (prop_face net rows) text
group_shown rows net text rise =
    ap object_of
    (found_by_name (props_shown rows net text) rise
    ∙ sym (λ i. named (λ name. values_shown net text name rows i) (names_shown net text rows i)))
