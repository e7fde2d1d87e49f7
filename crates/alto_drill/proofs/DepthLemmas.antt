-- Documents, and patches between them, nest few deep, so their texts read back.
use Rattle.std.proofs.Common.{ℕ, suc, ◌+◌, ◌≤◌, Bool, true, false, List, [], ◌∷◌, ◌++◌, length, map, Option, Some, None}
use Rattle.std.proofs.Common.{if◌then◌else◌, codes, arith}
use Rattle.std.specs.Prelude.{⊤, ◌&&◌, fold, unwrap_or}
use Rattle.std.specs.List.{AllByRecursion, cons_option, flat_map, list_any}
use Rattle.std.specs.Cmp.Lexicographic.{slice_cmp}
use Rattle.std.specs.Ordering.{match_ordering, nat_cmp}
use Rattle.std.specs.declared.cmp.Ordering.{Ordering}
use Rattle.std.proofs.Common.{Less, Equal, Greater}
use Rattle.serde_json.specs.Data.{Data, depth, Members, no_members, member, members_depth, null, put, string}
use Rattle.serde_json.specs.Read.{max_depth}
use Rattle.json_tree.specs.Document.{array_of, object_of, with_member}
use Rattle.json_tree.specs.Pointer.{pointer_text}
use Rattle.json_patch.specs.OperationList.{operation_data, operations_data}
use Rattle.json_patch.specs.Operations.{Action, add, remove, replace, Operation}
use Rattle.alto_addr.specs.Text.{prefix_text}
use Rattle.alto_rows.specs.declared.key.Key.{Key}
use Rattle.alto_rows.specs.declared.key.Key.TheVariants as key
use Rattle.alto_rows.specs.declared.resource.Resource.{Resource}
use Rattle.alto_rows.specs.declared.resource.Resource.TheVariants as resource
use Rattle.alto_rows.specs.declared.value.Value.{Value}
use Rattle.alto_rows.specs.declared.value.Value.TheVariants as value
use Rattle.alto_rows.specs.Order.{same_name}
use Rattle.alto_rows.specs.Rows.{Rows}
use Rattle.alto_rows.specs.Versions.{tag_of}
use Rattle.alto_maps.specs.declared.place.Place.{Place}
use Rattle.alto_maps.specs.MergeForm as merge
use Rattle.alto_maps.specs.MergeForm.{change_of, group_change, meta_change, nested, part, section_change}
use Rattle.alto_maps.specs.OperationForm as operation
use Rattle.alto_maps.specs.OperationForm.{by_standing, on_group, on_member, on_members, on_meta, under}
use Rattle.alto_maps.specs.Places.{touched_groups, touched_members, touches_meta}
use Rattle.alto_maps.specs.Shape as maps
use Rattle.alto_maps.specs.Shape.{Face, Name, Shape, group_object, member_in, section_object, stands}
use Rattle.net_docs.specs.NetworkMap.{dependent_tags, family, prefix_listed, prefixes_of, version_tag}
use Rattle.cost_docs.specs.CostMap.{cost_type, number_data}
use Rattle.prop_docs.specs.PropertyMap.{first_data, value_data}
use Rattle.edge_patch.specs.Documents.{document, face_of, place_of, shape_of}
use Rattle.edge_patch.specs.Merge.{merge_form}
use Rattle.edge_patch.specs.OperationForm.{operation_form}

-- ---- lists and objects

abbrev AreShallow : ℕ → List Data → Type 0
AreShallow n values = AllByRecursion (λ d. depth d ≤ n) values

array_shallow : (n : ℕ) (values : List Data) → AreShallow n values → depth (array_of values) ≤ suc n
array_shallow n [] h = omega arith
array_shallow n (d ∷ values) h = let rest = array_shallow n values h.1 in omega (arith, h.0, rest)

by_ordering : (o : Ordering) (a b c : Members) (n : ℕ) → members_depth a ≤ n → members_depth b ≤ n → members_depth c ≤ n
    → members_depth (match_ordering o a b c) ≤ n
by_ordering Less a b c n p q r = p
by_ordering Equal a b c n p q r = q
by_ordering Greater a b c n p q r = r

put_shallow : (name : List ℕ) (d : Data) (ms : Members) (n : ℕ) → depth d ≤ n → members_depth ms ≤ n
    → members_depth (put name d ms) ≤ n
put_shallow name d no_members n p q = omega arith
put_shallow name d (member l e ms) n p q =
    let below = put_shallow name d ms n p (omega arith) in
    by_ordering (slice_cmp nat_cmp name l) (member name d (member l e ms)) (member l d ms) (member l e (put name d ms))
    n (omega arith) (omega arith) (omega arith)

with_shallow : (name : List ℕ) (d : Data) (ms : Members) (n : ℕ) → depth d ≤ n → members_depth ms ≤ n
    → members_depth (with_member name d ms) ≤ n
unfolding with_member
with_shallow name d ms n p q = put_shallow name d ms n p q

abbrev HaveShallow : ℕ → List (List ℕ × Data) → Type 0
HaveShallow n ms = AllByRecursion (λ m. depth m.1 ≤ n) ms

fold_shallow : (n : ℕ) (ms : List (List ℕ × Data)) (before : Members) → HaveShallow n ms → members_depth before ≤ n
    → members_depth (fold (λ before m. with_member m.0 m.1 before) before ms) ≤ n
fold_shallow n [] before h p = p
fold_shallow n (m ∷ ms) before h p =
    fold_shallow n ms (with_member m.0 m.1 before) h.1 (with_shallow m.0 m.1 before n h.0 p)

object_shallow : (n : ℕ) (ms : List (List ℕ × Data)) → HaveShallow n ms → depth (object_of ms) ≤ suc n
object_shallow n ms h = let below = fold_shallow n ms no_members h (omega arith) in omega (arith, below)

two_shallow : (n : ℕ) (a b : List ℕ) (x y : Data) → depth x ≤ n → depth y ≤ n
    → depth (object_of ((a, x) ∷ (b, y) ∷ [])) ≤ suc n
two_shallow n a b x y p q = object_shallow n ((a, x) ∷ (b, y) ∷ []) (p, (q, tt))

-- ---- what maps show

-- a map's meta, version and values nest few deep
record IsShallow (face : Face) : Type 0 where
  meta : depth face.meta ≤ 3
  version : depth face.version ≤ 3
  value : (g m : Name) → depth (face.value g m) ≤ 1

-- a prefix is listed as a text
listed : (net pid kind : Name) (row : Key × Value) (rest : List Data) → AreShallow 0 rest
    → AreShallow 0 (cons_option (prefix_listed net pid kind row) rest)
listed net pid kind (key.Prefix of owner prefix, v) rest h =
    by (same_name net of && same_name pid owner && same_name kind (family prefix.addr))
  where
    by : (b : Bool)
        → AreShallow 0 (cons_option (if b then Some (string (prefix_text prefix.addr prefix.len)) else None) rest)
    by true = (omega arith, h)
    by false = h
listed net pid kind (key.Epoch, v) rest h = h
listed net pid kind (key.Window, v) rest h = h
listed net pid kind (key.Net of, v) rest h = h
listed net pid kind (key.Pid of owner, v) rest h = h
listed net pid kind (key.Metric of metric, v) rest h = h
listed net pid kind (key.Cost of metric source destination, v) rest h = h
listed net pid kind (key.Prop of entity name, v) rest h = h
listed net pid kind (key.Ane of ane, v) rest h = h
listed net pid kind (key.AneProp of ane name, v) rest h = h
listed net pid kind (key.Path of source destination, v) rest h = h
listed net pid kind (key.Seq of, v) rest h = h

prefixes_shallow : (rows : Rows) (net pid kind : Name) → AreShallow 0 (prefixes_of rows net pid kind)
prefixes_shallow [] net pid kind = tt
prefixes_shallow (row ∷ rows) net pid kind =
    listed net pid kind row (prefixes_of rows net pid kind) (prefixes_shallow rows net pid kind)

number_shallow : (n : Option ℕ) → depth (number_data n) ≤ 1
number_shallow None = omega arith
number_shallow (Some n) = omega arith

value_shallow : (v : Value) → depth (value_data v) ≤ 1
value_shallow value.Unit = omega arith
value_shallow (value.Text text) = omega arith
value_shallow (value.Num n) = omega arith
value_shallow (value.Names names) = omega arith

first_shallow : (values : List Value) → depth (first_data values) ≤ 1
first_shallow [] = omega arith
first_shallow (v ∷ values) = value_shallow v

tag_shallow : (rows : Rows) (net : Name) → depth (version_tag rows net) ≤ 1
tag_shallow rows net =
    two_shallow 0 (codes "resource-id") (codes "tag") (string net) (string (tag_of rows (resource.Net net)))
    (omega arith) (omega arith)

tags_shallow : (rows : Rows) (net : Name) → depth (dependent_tags rows net) ≤ 2
tags_shallow rows net = array_shallow 1 (version_tag rows net ∷ []) (tag_shallow rows net, tt)

type_shallow : (metric mode : Name) → depth (cost_type metric mode) ≤ 2
type_shallow metric mode =
    let one = two_shallow 0 (codes "cost-metric") (codes "cost-mode") (string metric) (string mode) (omega arith)
    (omega arith) in
    omega (arith, one)

face_shallow : (of : Resource) (rows : Rows) → IsShallow (face_of of rows)
face_shallow (resource.Net net) rows = record {
  meta = let one = object_shallow 1 ((codes "vtag", version_tag rows net) ∷ []) (tag_shallow rows net, tt) in
      omega (arith, one);
  version = omega arith;
  value = λ g m. array_shallow 0 (prefixes_of rows net g m) (prefixes_shallow rows net g m);
}
face_shallow (resource.Cost net metric) rows = record {
  meta =
      two_shallow 2 (codes "cost-type") (codes "dependent-vtags") (cost_type metric (codes "numerical"))
      (dependent_tags rows net)
      (type_shallow metric (codes "numerical")) (tags_shallow rows net);
  version = let two = tags_shallow rows net in omega (arith, two);
  value = λ g m. number_shallow _;
}
face_shallow (resource.Prop net) rows = record {
  meta = object_shallow 2 ((codes "dependent-vtags", dependent_tags rows net) ∷ []) (tags_shallow rows net, tt);
  version = let two = tags_shallow rows net in omega (arith, two);
  value = λ g m. first_shallow _;
}

-- ---- documents

values_shallow : (face : Face) (g : Name) (members : List Name) → IsShallow face
    → HaveShallow 1 (map (λ m. (m, face.value g m)) members)
values_shallow face g [] shallow = tt
values_shallow face g (m ∷ members) shallow = (shallow.value g m, values_shallow face g members shallow)

group_shallow : (face : Face) (g : Name) → IsShallow face → depth (group_object face g) ≤ 3
group_shallow face g shallow =
    let two = object_shallow 1 (map (λ m. (m, face.value g m)) (face.members g))
    (values_shallow face g (face.members g) shallow) in
    omega (arith, two)

sections_shallow : (face : Face) (groups : List Name) → IsShallow face
    → HaveShallow 3 (map (λ g. (g, group_object face g)) groups)
sections_shallow face [] shallow = tt
sections_shallow face (g ∷ groups) shallow = (group_shallow face g shallow, sections_shallow face groups shallow)

map_shallow : (shape : Shape) (face : Face) → IsShallow face → depth (maps.document shape face) ≤ 5
unfolding maps.document
map_shallow shape face shallow =
    let meta = shallow.meta in
    object_shallow 4 ((codes "meta", face.meta) ∷ (shape.section, section_object face) ∷ [])
    (omega (arith, meta), (object_shallow 3 _ (sections_shallow face face.groups shallow), tt))

-- the document of a resource
pub document_shallow : (of : Resource) (rows : Rows) → depth (document of rows) ≤ max_depth
document_shallow of rows =
    let five = map_shallow (shape_of of) (face_of of rows) (face_shallow of rows) in
    omega (arith, five)

-- ---- merge patches

nested_shallow : (path : List Name) (d : Data) → depth d ≤ 3 → depth (nested path d) ≤ 3 + length path
nested_shallow [] d h = omega (arith, h)
nested_shallow (name ∷ path) d h =
    let below = nested_shallow path d h in
    let more = object_shallow (3 + length path) ((name, nested path d) ∷ []) (below, tt) in
    omega (arith, more)

member_shallow : (after : Face) (g m : Name) (b : Bool) → IsShallow after
    → depth (unwrap_or (if b then Some (after.value g m) else None) null) ≤ 1
member_shallow after g m true shallow = shallow.value g m
member_shallow after g m false shallow = omega arith

changes_shallow : (after : Face) (g : Name) (members : List Name) → IsShallow after
    → HaveShallow 1 (map (λ m. (m, unwrap_or (member_in after g m) null)) members)
changes_shallow after g [] shallow = tt
changes_shallow after g (m ∷ members) shallow = (
  member_shallow after g m (stands after g && list_any (same_name m) (after.members g)) shallow,
  changes_shallow after g members shallow,
)

change_shallow : (after : Face) (g : Name) (members : List Name) → IsShallow after
    → depth (change_of after g members) ≤ 2
change_shallow after g members shallow = by (stands after g)
  where
    by : (b : Bool)
        → depth (if b then object_of (map (λ m. (m, unwrap_or (member_in after g m) null)) members) else null) ≤ 2
    by true = object_shallow 1 _ (changes_shallow after g members shallow)
    by false = omega arith

groups_shallow : (after : Face) (places : List Place) (groups : List Name) → IsShallow after
    → HaveShallow 2 (map (λ g. (g, group_change after places g)) groups)
groups_shallow after places [] shallow = tt
groups_shallow after places (g ∷ groups) shallow =
    (change_shallow after g (touched_members g places) shallow, groups_shallow after places groups shallow)

have_append : (n : ℕ) (first second : List (Name × Data)) → HaveShallow n first → HaveShallow n second
    → HaveShallow n (first ++ second)
have_append n [] second a b = b
have_append n (m ∷ first) second a b = (a.0, have_append n first second a.1 b)

section_shallow : (name : Name) (changes : List (Name × Data)) → HaveShallow 2 changes
    → HaveShallow 5 (part name (section_change changes))
section_shallow name [] h = tt
section_shallow name (change ∷ changes) h = let three = object_shallow 2 (change ∷ changes) h in
    (omega (arith, three), tt)

meta_shallow : (shape : Shape) (after : Face) (places : List Place) → length shape.path ≤ 2 → IsShallow after
    → HaveShallow 5 (part (codes "meta") (meta_change shape after places))
meta_shallow shape after places short shallow = by (list_any touches_meta places)
  where
    by : (b : Bool) → HaveShallow 5 (part (codes "meta") (if b then Some (nested shape.path after.version) else None))
    by true = let deep = nested_shallow shape.path after.version shallow.version in (omega (arith, deep, short), tt)
    by false = tt

patch_shallow : (shape : Shape) (after : Face) (places : List Place) → length shape.path ≤ 2 → IsShallow after
    → depth (merge.merge_form shape after places) ≤ 6
unfolding merge.merge_form
patch_shallow shape after places short shallow =
    object_shallow 5 _
    (have_append 5 (part (codes "meta") (meta_change shape after places))
    _ (meta_shallow shape after places short shallow)
    (section_shallow shape.section _ (groups_shallow after places (touched_groups places) shallow)))

short_path : (of : Resource) → length (shape_of of).path ≤ 2
short_path (resource.Net net) = omega arith
short_path (resource.Cost net metric) = omega arith
short_path (resource.Prop net) = omega arith

-- the merge patch of an edge
pub merge_shallow : (of : Resource) (after : Rows) (keys : List Key) → depth (merge_form of after keys) ≤ max_depth
merge_shallow of after keys =
    let six = patch_shallow (shape_of of) (face_of of after) (map (place_of of) keys) (short_path of)
    (face_shallow of after) in
    omega (arith, six)

-- ---- operations

abbrev ActsShallow : Action → Type 0
ActsShallow (add d) = depth d ≤ 3
ActsShallow remove = ⊤
ActsShallow (replace d) = depth d ≤ 3

abbrev AllActShallow : List Operation → Type 0
AllActShallow operations = AllByRecursion (λ operation. ActsShallow operation.action) operations

act_append : (first second : List Operation) → AllActShallow first → AllActShallow second
    → AllActShallow (first ++ second)
act_append [] second a b = b
act_append (operation ∷ first) second a b = (a.0, act_append first second a.1 b)

act_flat : {A : Type 0} (f : A → List Operation) (items : List A) → ((item : A) → AllActShallow (f item))
    → AllActShallow (flat_map f items)
act_flat f [] each = tt
act_flat f (item ∷ items) each = act_append (f item) (flat_map f items) (each item) (act_flat f items each)

act_under : (name : Name) (operations : List Operation) → AllActShallow operations
    → AllActShallow (map (under name) operations)
act_under name [] h = tt
act_under name (operation ∷ operations) h = (h.0, act_under name operations h.1)

member_acts : (after : Face) (g m : Name) (old : Option Data) (b : Bool) → IsShallow after
    → AllActShallow (on_member m old (if b then Some (after.value g m) else None))
member_acts after g m old true shallow = let one = shallow.value g m in (omega (arith, one), tt)
member_acts after g m (Some old) false shallow = (tt, tt)
member_acts after g m None false shallow = tt

members_act : (before after : Face) (g : Name) (members : List Name) → IsShallow after
    → AllActShallow (on_members before after g members)
members_act before after g members shallow =
    act_flat (λ m. on_member m (member_in before g m) (member_in after g m)) members
    (λ m. member_acts after g m (member_in before g m)
    (stands after g && list_any (same_name m) (after.members g)) shallow)

standing_acts : (g : Name) (new : Data) (within : List Operation) (stood stands : Bool) → depth new ≤ 3
    → AllActShallow within
    → AllActShallow (by_standing g new within stood stands)
standing_acts g new within true true d h = act_under g within h
standing_acts g new within true false d h = (tt, tt)
standing_acts g new within false true d h = (d, tt)
standing_acts g new within false false d h = tt

group_acts : (before after : Face) (places : List Place) (g : Name) → IsShallow after
    → AllActShallow (on_group before after places g)
group_acts before after places g shallow =
    standing_acts g (group_object after g) (on_members before after g (touched_members g places)) (stands before g)
    (stands after g)
    (group_shallow after g shallow) (members_act before after g (touched_members g places) shallow)

meta_acts : (shape : Shape) (after : Face) (places : List Place) → IsShallow after
    → AllActShallow (on_meta shape after places)
meta_acts shape after places shallow = by (list_any touches_meta places)
  where
    by : (b : Bool)
        → AllActShallow (if b then record { path = codes "meta" ∷ shape.path; action = replace after.version }
        ∷ [] else [])
    by true = (shallow.version, tt)
    by false = tt

all_act : (shape : Shape) (before after : Face) (places : List Place) → IsShallow after
    → AllActShallow (operation.operation_form shape before after places)
unfolding operation.operation_form
all_act shape before after places shallow =
    act_append (on_meta shape after places) _ (meta_acts shape after places shallow)
    (act_under shape.section (flat_map (on_group before after places) (touched_groups places))
    (act_flat (on_group before after places) (touched_groups places) (λ g. group_acts before after places g shallow)))

operation_shallow : (path : List Name) (action : Action) → ActsShallow action
    → depth (operation_data (record { path = path; action = action })) ≤ 4
operation_shallow path (add d) h =
    object_shallow 3 ((codes "op", string (codes "add")) ∷ (codes "path", string (pointer_text path))
    ∷ (codes "value", d) ∷ [])
    (omega arith, (omega arith, (h, tt)))
operation_shallow path remove h =
    two_shallow 3 (codes "op") (codes "path") (string (codes "remove")) (string (pointer_text path))
    (omega arith) (omega arith)
operation_shallow path (replace d) h =
    object_shallow 3 ((codes "op", string (codes "replace")) ∷ (codes "path", string (pointer_text path))
    ∷ (codes "value", d) ∷ [])
    (omega arith, (omega arith, (h, tt)))

items_shallow : (operations : List Operation) → AllActShallow operations → AreShallow 4 (map operation_data operations)
items_shallow [] h = tt
items_shallow (operation ∷ operations) h =
    (operation_shallow operation.path operation.action h.0, items_shallow operations h.1)

-- the operations of an edge, as a document
pub operations_shallow : (of : Resource) (before after : Rows) (keys : List Key)
    → depth (operations_data (operation_form of before after keys)) ≤ max_depth
operations_shallow of before after keys =
    let operations = operation_form of before after keys in
    let five = array_shallow 4 (map operation_data operations)
    (items_shallow operations (all_act (shape_of of) (face_of of before) (face_of of after) (map (place_of of) keys)
    (face_shallow of after))) in
    omega (arith, five)
