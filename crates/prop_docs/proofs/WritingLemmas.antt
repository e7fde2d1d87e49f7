-- Properties that are written one behind another.
use Rattle.std.proofs.Common.{◌≡◌, sym, subst}
use Rattle.std.specs.Prelude.{List, [], ◌∷◌, ◌++◌, map}
use Rattle.std.specs.List.Sorted.{IsStrictlySortedBy}
use Rattle.json.specs.Token.{begin_object, end_object}
use Rattle.json.specs.Written.{Written}
use Rattle.serde_json.specs.Data.{Data, object, Members, no_members, member}
use Rattle.json_tree.specs.Document.{members_of}
use Rattle.json_tree.specs.Tree.{members_in_order}
use Rattle.alto_rows.specs.Order.{name_cmp}
use Rattle.alto_rows.specs.Rows.{Rows}
use Rattle.alto_maps.specs.Shape.{Name, group_object}
use Rattle.alto_maps.specs.Writing.{AddsMember, AddsMembers, AddsValue}
use Rattle.alto_maps.proofs.RisingLemmas.{named-rising}
use Rattle.alto_maps.proofs.SetLemmas.{rise-set_of}
use Rattle.alto_maps.proofs.WritingLemmas.{member_more, whole_object}
use Rattle.std.specs.List.{filter_map}
use Rattle.prop_docs.specs.PropertyMap.{entities_of, entity_in, prop_face}
use Rattle.prop_docs.specs.Properties.{NamedValue, names_of, props_object, shown_values}
use Rattle.prop_docs.specs.Writing.{groups_of, props_in_order}
use Rattle.prop_docs.proofs.GroupLemmas.{found_by_name, value_named}

-- the groups of these texts as they stand
abbrev pub groups_in_order : Rows → Name → List Name → Members
groups_in_order rows net texts = members_in_order (map (λ text. (text, group_object (prop_face net rows) text)) texts)

-- the texts of entities stand in byte order
pub groups_stand : (rows : Rows) (net : Name) → groups_of rows net ≡ groups_in_order rows net (entities_of rows net)
groups_stand rows net = named-rising (group_object (prop_face net rows)) (entities_of rows net)
    (rise-set_of (filter_map (entity_in net) rows))

-- properties whose names rise stand in the order of an object
pub props_stand : (props : List NamedValue) → IsStrictlySortedBy name_cmp (names_of props)
    → members_of (shown_values props) ≡ props_in_order props
props_stand props rise =
    rw (found_by_name props rise) (named-rising (value_named props) (names_of props) rise)

-- an object of one member
pub object_of_one : (k : Name) (d : Data) (old begun mid new : Written) → begun.tokens ≡ old.tokens ++ begin_object ∷ []
    → begun.before ≡ old.before → AddsMember k d begun mid
    → new.tokens ≡ mid.tokens ++ end_object ∷ [] → new.before ≡ mid.before
    → AddsValue (object (member k d no_members)) old new
object_of_one k d old begun mid new opened same added closed stays =
    whole_object (member k d no_members) old begun mid new opened
    same (record { tokens = member_more k d no_members begun mid added; before = added.before }) closed stays

-- the object of properties whose names rise, written in their order
pub object_of_props : (props : List NamedValue) (old begun mid new : Written)
    → IsStrictlySortedBy name_cmp (names_of props) → begun.tokens ≡ old.tokens ++ begin_object ∷ []
    → begun.before ≡ old.before → AddsMembers (props_in_order props) begun mid
    → new.tokens ≡ mid.tokens ++ end_object ∷ [] → new.before ≡ mid.before
    → AddsValue (props_object props) old new
object_of_props props old begun mid new rise opened same added closed stays =
    subst (λ ms. AddsValue (object ms) old new) (sym (props_stand props rise))
    (whole_object (props_in_order props) old begun mid new opened same added closed stays)
