-- Documents of good rows hold what trees hold, so their texts read back.
use Rattle.std.proofs.Common.{◌≡◌, ℕ, ◌<◌, ◌^◌, Bool, true, false, List, [], ◌∷◌, ◌++◌, map, filter, filter_map, Option}
use Rattle.std.proofs.Common.{Some, None, Ok, if◌then◌else◌, codes, decimal, refl, sym, ◌∙◌, arith, append_assoc}
use Rattle.std.proofs.Common.{Ordering, Less, Equal, Greater}
use Rattle.std.proofs.lemmas.Str.{IsUtf8-append}
use Rattle.std.specs.BTreeSet.{insert_key}
use Rattle.std.specs.Cmp.Lexicographic.{slice_cmp}
use Rattle.std.specs.List.{AllByRecursion, cons_option}
use Rattle.std.specs.Ordering.{match_ordering, nat_cmp}
use Rattle.std.specs.Prelude.{◌&&◌, fold, IfSome, not}
use Rattle.std.specs.Str.{IsUtf8}
use Rattle.serde_json.specs.Data.{put, string}
use Rattle.serde_json.specs.Written.{compact_text}
use Rattle.json_tree.specs.Laws.{IsOfTree}
use Rattle.json_tree.specs.Whole.{whole_value}
use Rattle.json_tree.proofs.TextLemmas.{whole_value-compact_text}
use Rattle.alto_names.specs.Name.{IsMetric, IsNetName}
use Rattle.alto_addr.specs.Text.{prefix_text}
use Rattle.alto_rows.specs.declared.entity.Entity.{Entity}
use Rattle.alto_rows.specs.Entities.{entity_text}
use Rattle.alto_rows.specs.declared.key.Key.{Key}
use Rattle.alto_rows.specs.declared.key.Key.TheVariants as key
use Rattle.alto_rows.specs.declared.resource.Resource.{Resource}
use Rattle.alto_rows.specs.declared.resource.Resource.TheVariants as resource
use Rattle.alto_rows.specs.declared.value.Value.{Value}
use Rattle.alto_rows.specs.declared.value.Value.TheVariants as value
use Rattle.alto_rows.specs.Good.{AreGood, Fits, IsResource, Takes}
use Rattle.alto_rows.specs.Order.{same_name}
use Rattle.alto_rows.specs.Rows.{Rows, value_of}
use Rattle.alto_rows.specs.Versions.{epoch_of, is_declared, number_in, tag_of, text_in, version_of}
use Rattle.alto_rows.proofs.RowsLemmas.{IsRow, value_of_row}
use Rattle.alto_rows.proofs.SoundLemmas.{resource_fits, sound_of_good}
use Rattle.alto_maps.specs.Places.{set_of}
use Rattle.alto_maps.specs.Shape as maps
use Rattle.alto_maps.specs.Shape.{Face, group_object, Name, section_object, Shape}
use Rattle.net_docs.specs.NetworkMap.{dependent_tags, families, family, is_empty, pid_declared, prefix_listed}
use Rattle.net_docs.specs.NetworkMap.{prefixes_of, version_tag}
use Rattle.alto_rows.specs.Costs.{number_at}
use Rattle.cost_docs.specs.CostMap.{cost_type, destination_in, number_data, source_in}
use Rattle.prop_docs.specs.PropertyMap.{entity_in, first_data, is_text_of, property_in, value_data, value_in}
use Rattle.edge_patch.specs.Documents.{document, face_of, shape_of}
use Rattle.alto_drill.proofs.DepthLemmas.{document_shallow}
use Rattle.alto_drill.proofs.ObjectLemmas.{array_tree, NameTrees, object_tree, one_tree, two_tree}
use Rattle.alto_drill.proofs.TextLemmas.{decimal_text, entity_is_text, epoch_text, metric_text, net_text, pid_text}
use Rattle.alto_drill.proofs.TextLemmas.{plain_text, prefix_is_text, prop_text}

-- ---- rows

abbrev RowFits : Key × Value → Type 0
RowFits row = Fits row.0 row.1

row_fits : (rows : Rows) (at : Key) (v : Value) → AreGood rows → IsRow rows at v → Fits at v
row_fits rows at v good row = rw (value_of_row rows at v good.sorted row) at (good.fit at)

each_fits : (rows front back : Rows) → AreGood rows → rows ≡ front ++ back → AllByRecursion RowFits back
each_fits rows front [] good whole = tt
each_fits rows front (row ∷ back) good whole = (
  row_fits rows row.0 row.1 good (record { front = front; back = back; whole = whole }),
  each_fits rows (front ++ row ∷ []) back good (whole ∙ sym (append_assoc front (row ∷ []) back)),
)

-- each row of good rows fits
rows_fit : (rows : Rows) → AreGood rows → AllByRecursion RowFits rows
rows_fit rows good = each_fits rows [] rows good refl

picked_one : {A : Type 0} (Q : A → Type 0) (o : Option A) (rest : List A) → IfSome o Q → AllByRecursion Q rest
    → AllByRecursion Q (cons_option o rest)
picked_one Q None rest h below = below
picked_one Q (Some x) rest h below = (h, below)

-- what is picked of rows that fit
picked : {A : Type 0} (f : Key × Value → Option A) (Q : A → Type 0) (rows : Rows)
    → ((row : Key × Value) → RowFits row → IfSome (f row) Q)
    → AllByRecursion RowFits rows → AllByRecursion Q (filter_map f rows)
picked f Q [] each h = tt
picked f Q (row ∷ rows) each h = picked_one Q (f row) (filter_map f rows) (each row h.0) (picked f Q rows each h.1)

-- a choice of a value that is right
if_right : {A : Type 0} (Q : A → Type 0) (b : Bool) (x : A) → Q x → IfSome (if b then Some x else None) Q
if_right Q true x h = h
if_right Q false x h = tt

-- ---- what rows show

-- PIDs
pid_shown : (net : Name) (row : Key × Value) → RowFits row → IfSome (pid_declared net row) IsUtf8
pid_shown net (key.Epoch, v) fits = tt
pid_shown net (key.Window, v) fits = tt
pid_shown net (key.Net of, v) fits = tt
pid_shown net (key.Pid of pid, v) fits = if_right IsUtf8 (same_name net of) pid (pid_text pid fits.0.1)
pid_shown net (key.Prefix of owner prefix, v) fits = tt
pid_shown net (key.Metric of metric_, v) fits = tt
pid_shown net (key.Cost of kind src dst, v) fits = tt
pid_shown net (key.Prop of entity other, v) fits = tt
pid_shown net (key.Ane of ane, v) fits = tt
pid_shown net (key.AneProp of ane other, v) fits = tt
pid_shown net (key.Path of src dst, v) fits = tt
pid_shown net (key.Seq other, v) fits = tt

-- prefixes
prefix_shown : (net pid name : Name) (row : Key × Value) → RowFits row
    → IfSome (prefix_listed net pid name row) IsOfTree
prefix_shown net pid name (key.Epoch, v) fits = tt
prefix_shown net pid name (key.Window, v) fits = tt
prefix_shown net pid name (key.Net of, v) fits = tt
prefix_shown net pid name (key.Pid of other, v) fits = tt
prefix_shown net pid name (key.Prefix of owner prefix, v) fits =
    if_right IsOfTree (same_name net of && same_name pid owner && same_name name (family prefix.addr))
    (string (prefix_text prefix.addr prefix.len)) (prefix_is_text prefix fits.0.2)
prefix_shown net pid name (key.Metric of metric_, v) fits = tt
prefix_shown net pid name (key.Cost of kind src dst, v) fits = tt
prefix_shown net pid name (key.Prop of entity other, v) fits = tt
prefix_shown net pid name (key.Ane of ane, v) fits = tt
prefix_shown net pid name (key.AneProp of ane other, v) fits = tt
prefix_shown net pid name (key.Path of src dst, v) fits = tt
prefix_shown net pid name (key.Seq other, v) fits = tt

-- sources of costs
source_shown : (net metric : Name) (row : Key × Value) → RowFits row → IfSome (source_in net metric row) IsUtf8
source_shown net metric (key.Epoch, v) fits = tt
source_shown net metric (key.Window, v) fits = tt
source_shown net metric (key.Net of, v) fits = tt
source_shown net metric (key.Pid of pid, v) fits = tt
source_shown net metric (key.Prefix of owner prefix, v) fits = tt
source_shown net metric (key.Metric of metric_, v) fits = tt
source_shown net metric (key.Cost of kind src dst, v) fits =
    if_right IsUtf8 (same_name net of && same_name metric kind) src (pid_text src fits.0.2)
source_shown net metric (key.Prop of entity other, v) fits = tt
source_shown net metric (key.Ane of ane, v) fits = tt
source_shown net metric (key.AneProp of ane other, v) fits = tt
source_shown net metric (key.Path of src dst, v) fits = tt
source_shown net metric (key.Seq other, v) fits = tt

-- destinations of costs
destination_shown : (net metric from : Name) (row : Key × Value) → RowFits row
    → IfSome (destination_in net metric from row) IsUtf8
destination_shown net metric from (key.Epoch, v) fits = tt
destination_shown net metric from (key.Window, v) fits = tt
destination_shown net metric from (key.Net of, v) fits = tt
destination_shown net metric from (key.Pid of pid, v) fits = tt
destination_shown net metric from (key.Prefix of owner prefix, v) fits = tt
destination_shown net metric from (key.Metric of metric_, v) fits = tt
destination_shown net metric from (key.Cost of kind src dst, v) fits =
    if_right IsUtf8 (same_name net of && same_name metric kind && same_name from src) dst (pid_text dst fits.0.3)
destination_shown net metric from (key.Prop of entity other, v) fits = tt
destination_shown net metric from (key.Ane of ane, v) fits = tt
destination_shown net metric from (key.AneProp of ane other, v) fits = tt
destination_shown net metric from (key.Path of src dst, v) fits = tt
destination_shown net metric from (key.Seq other, v) fits = tt

-- entities
entity_shown : (net : Name) → IsNetName net → (row : Key × Value) → RowFits row → IfSome (entity_in net row) IsUtf8
entity_shown net is (key.Epoch, v) fits = tt
entity_shown net is (key.Window, v) fits = tt
entity_shown net is (key.Net of, v) fits = tt
entity_shown net is (key.Pid of pid, v) fits = tt
entity_shown net is (key.Prefix of owner prefix, v) fits = tt
entity_shown net is (key.Metric of metric_, v) fits = tt
entity_shown net is (key.Cost of kind src dst, v) fits = tt
entity_shown net is (key.Prop of entity other, v) fits =
    if_right IsUtf8 (same_name net of) (entity_text net entity) (entity_is_text net entity is fits.0.1)
entity_shown net is (key.Ane of ane, v) fits = tt
entity_shown net is (key.AneProp of ane other, v) fits = tt
entity_shown net is (key.Path of src dst, v) fits = tt
entity_shown net is (key.Seq other, v) fits = tt

-- names of properties
property_shown : (net text : Name) (row : Key × Value) → RowFits row → IfSome (property_in net text row) IsUtf8
property_shown net text (key.Epoch, v) fits = tt
property_shown net text (key.Window, v) fits = tt
property_shown net text (key.Net of, v) fits = tt
property_shown net text (key.Pid of pid, v) fits = tt
property_shown net text (key.Prefix of owner prefix, v) fits = tt
property_shown net text (key.Metric of metric_, v) fits = tt
property_shown net text (key.Cost of kind src dst, v) fits = tt
property_shown net text (key.Prop of entity other, v) fits =
    if_right IsUtf8 (same_name net of && is_text_of net text entity) other (prop_text other fits.0.2)
property_shown net text (key.Ane of ane, v) fits = tt
property_shown net text (key.AneProp of ane other, v) fits = tt
property_shown net text (key.Path of src dst, v) fits = tt
property_shown net text (key.Seq other, v) fits = tt

-- a property's value as JSON
abbrev IsValue : Value → Type 0
IsValue v = IsOfTree (value_data v)

prop_value : (net : Name) (entity : Entity) (name : Name) (v : Value) → Takes (key.Prop net entity name) v → IsValue v
prop_value net entity name value.Unit takes = tt
prop_value net entity name (value.Text text) takes = takes.0
prop_value net entity name (value.Num n) takes = omega (arith, takes)
prop_value net entity name (value.Names names) takes = tt

-- values of properties
value_shown : (net text name : Name) (row : Key × Value) → RowFits row → IfSome (value_in net text name row) IsValue
value_shown net text name (key.Epoch, v) fits = tt
value_shown net text name (key.Window, v) fits = tt
value_shown net text name (key.Net of, v) fits = tt
value_shown net text name (key.Pid of pid, v) fits = tt
value_shown net text name (key.Prefix of owner prefix, v) fits = tt
value_shown net text name (key.Metric of metric_, v) fits = tt
value_shown net text name (key.Cost of kind src dst, v) fits = tt
value_shown net text name (key.Prop of entity other, v) fits =
    if_right IsValue (same_name net of && is_text_of net text entity && same_name name other)
    v (prop_value of entity other v fits.1)
value_shown net text name (key.Ane of ane, v) fits = tt
value_shown net text name (key.AneProp of ane other, v) fits = tt
value_shown net text name (key.Path of src dst, v) fits = tt
value_shown net text name (key.Seq other, v) fits = tt

first_value : (values : List Value) → AllByRecursion IsValue values → IsOfTree (first_data values)
first_value [] h = tt
first_value (v ∷ values) h = h.0

cost_number : (at : Key) (o : Option Value) → ((n : ℕ) → Takes at (value.Num n) → n < 2 ^ 64) → IfSome o (Fits at)
    → IsOfTree (number_data (number_at o))
cost_number at None few fit = tt
cost_number at (Some value.Unit) few fit = tt
cost_number at (Some (value.Text text)) few fit = tt
cost_number at (Some (value.Num n)) few fit = few n fit.1
cost_number at (Some (value.Names names)) few fit = tt

-- names among which one more is put
set_more : (name : Name) (names : List Name) → IsUtf8 name → AllByRecursion IsUtf8 names
    → AllByRecursion IsUtf8 (insert_key (slice_cmp nat_cmp) names name)
set_more name [] p h = (p, tt)
set_more name (other ∷ names) p h = by (slice_cmp nat_cmp name other) (set_more name names p h.1)
  where
    by : (o : Ordering) → AllByRecursion IsUtf8 (insert_key (slice_cmp nat_cmp) names name)
        → AllByRecursion IsUtf8 (match_ordering o (name ∷ other ∷ names) (other ∷ names)
        (other ∷ insert_key (slice_cmp nat_cmp) names name))
    by Less below = (p, h)
    by Equal below = h
    by Greater below = (h.0, below)

set_fold : (names before : List Name) → AllByRecursion IsUtf8 names → AllByRecursion IsUtf8 before
    → AllByRecursion IsUtf8 (fold (λ set name. insert_key (slice_cmp nat_cmp) set name) before names)
set_fold [] before h p = p
set_fold (name ∷ names) before h p =
    set_fold names (insert_key (slice_cmp nat_cmp) before name) h.1 (set_more name before h.0 p)

set_texts : (names : List Name) → AllByRecursion IsUtf8 names → AllByRecursion IsUtf8 (set_of names)
unfolding set_of
set_texts names h = set_fold names [] h tt

-- ---- tags

epoch_is_text : (o : Option Value) → IfSome o (Fits key.Epoch) → IsUtf8 (text_in o)
epoch_is_text None fit = plain_text [] refl
epoch_is_text (Some value.Unit) fit = plain_text [] refl
epoch_is_text (Some (value.Text text)) fit = epoch_text text fit.1
epoch_is_text (Some (value.Num n)) fit = plain_text [] refl
epoch_is_text (Some (value.Names names)) fit = plain_text [] refl

version_small : (of : Resource) (o : Option Value) → IfSome o (Fits (key.Seq of)) → number_in o < 2 ^ 64
version_small of None fit = omega arith
version_small of (Some value.Unit) fit = omega arith
version_small of (Some (value.Text text)) fit = omega arith
version_small of (Some (value.Num n)) fit = omega (arith, fit.1.1)
version_small of (Some (value.Names names)) fit = omega arith

tag_text : (rows : Rows) (of : Resource) → AreGood rows → IsUtf8 (tag_of rows of)
tag_text rows of good =
    IsUtf8-append (epoch_of rows ++ codes "-") (decimal (version_of rows of))
    (IsUtf8-append (epoch_of rows) (codes "-") (epoch_is_text (value_of rows key.Epoch) (good.fit key.Epoch))
    (plain_text (codes "-") refl))
    (decimal_text (version_of rows of) (version_small of (value_of rows (key.Seq of)) (good.fit (key.Seq of))))

version_tree : (rows : Rows) (net : Name) → AreGood rows → IsNetName net → IsOfTree (version_tag rows net)
version_tree rows net good is =
    two_tree (codes "resource-id") (codes "tag") (string net) (string (tag_of rows (resource.Net net)))
    (plain_text (codes "resource-id") refl) (plain_text (codes "tag") refl) (net_text net is)
    (tag_text rows (resource.Net net) good)

tags_tree : (rows : Rows) (net : Name) → AreGood rows → IsNetName net → IsOfTree (dependent_tags rows net)
tags_tree rows net good is = array_tree (version_tag rows net ∷ []) (version_tree rows net good is, tt)

-- ---- what maps show

-- a map's parts are what trees hold
record IsTold (face : Face) : Type 0 where
  meta : IsOfTree face.meta
  groups : AllByRecursion IsUtf8 face.groups
  members : (g : Name) → AllByRecursion IsUtf8 (face.members g)
  value : (g m : Name) → IsOfTree (face.value g m)

kept_families : (test : Name → Bool) → AllByRecursion IsUtf8 (filter test families)
kept_families test = by (test (codes "ipv4")) (test (codes "ipv6"))
  where
    v4 : IsUtf8 (codes "ipv4")
    v4 = plain_text (codes "ipv4") refl

    v6 : IsUtf8 (codes "ipv6")
    v6 = plain_text (codes "ipv6") refl

    by : (a b : Bool) → AllByRecursion IsUtf8
        (if a then codes "ipv4" ∷ (if b then codes "ipv6" ∷ [] else []) else (if b then codes "ipv6" ∷ [] else []))
    by true true = (v4, (v6, tt))
    by true false = (v4, tt)
    by false true = (v6, tt)
    by false false = tt

net_told : (rows : Rows) (net : Name) → AreGood rows → IsNetName net → IsTold (face_of (resource.Net net) rows)
net_told rows net good is = record {
  meta = one_tree (codes "vtag") (version_tag rows net) (plain_text (codes "vtag") refl)
      (version_tree rows net good is);
  groups = picked (pid_declared net) IsUtf8 rows (pid_shown net) (rows_fit rows good);
  members = λ g. kept_families (λ name. not (is_empty (prefixes_of rows net g name)));
  value = λ g m. array_tree _ (picked (prefix_listed net g m) IsOfTree rows (prefix_shown net g m)
      (rows_fit rows good));
}

amount_small : (net metric g m : Name) (n : ℕ) → Takes (key.Cost net metric g m) (value.Num n) → n < 2 ^ 64
amount_small net metric g m n amount = omega (arith, amount)

type_tree : (metric : Name) → IsMetric metric → IsOfTree (cost_type metric (codes "numerical"))
type_tree metric named =
    two_tree (codes "cost-metric") (codes "cost-mode") (string metric) (string (codes "numerical"))
    (plain_text (codes "cost-metric") refl) (plain_text (codes "cost-mode") refl) (metric_text metric named)
    (plain_text (codes "numerical") refl)

cost_told : (rows : Rows) (net metric : Name) → AreGood rows → IsNetName net → IsMetric metric
    → IsTold (face_of (resource.Cost net metric) rows)
cost_told rows net metric good is named = record {
  meta =
      two_tree (codes "cost-type") (codes "dependent-vtags") (cost_type metric (codes "numerical"))
      (dependent_tags rows net)
      (plain_text (codes "cost-type") refl) (plain_text (codes "dependent-vtags") refl) (type_tree metric named)
      (tags_tree rows net good is);
  groups = set_texts _ (picked (source_in net metric) IsUtf8 rows (source_shown net metric) (rows_fit rows good));
  members = λ g. picked (destination_in net metric g) IsUtf8 rows (destination_shown net metric g) (rows_fit rows good);
  value = λ g m. cost_number (key.Cost net metric g m) _ (amount_small net metric g m)
      (good.fit (key.Cost net metric g m));
}

prop_told : (rows : Rows) (net : Name) → AreGood rows → IsNetName net → IsTold (face_of (resource.Prop net) rows)
prop_told rows net good is = record {
  meta = one_tree (codes "dependent-vtags") (dependent_tags rows net) (plain_text (codes "dependent-vtags") refl)
      (tags_tree rows net good is);
  groups = set_texts _ (picked (entity_in net) IsUtf8 rows (entity_shown net is) (rows_fit rows good));
  members = λ g. picked (property_in net g) IsUtf8 rows (property_shown net g) (rows_fit rows good);
  value = λ g m. first_value _ (picked (value_in net g m) IsValue rows (value_shown net g m) (rows_fit rows good));
}

told : (of : Resource) (rows : Rows) → AreGood rows → IsResource of → IsTold (face_of of rows)
told (resource.Net net) rows good is = net_told rows net good is
told (resource.Cost net metric) rows good is = cost_told rows net metric good is.0 is.1
told (resource.Prop net) rows good is = prop_told rows net good is

section_named : (of : Resource) → IsUtf8 (shape_of of).section
section_named (resource.Net net) = plain_text (codes "network-map") refl
section_named (resource.Cost net metric) = plain_text (codes "cost-map") refl
section_named (resource.Prop net) = plain_text (codes "property-map") refl

-- ---- documents

group_members : (face : Face) (g : Name) (members : List Name) → IsTold face → AllByRecursion IsUtf8 members
    → NameTrees (map (λ m. (m, face.value g m)) members)
group_members face g [] told h = tt
group_members face g (m ∷ members) told h = ((h.0, told.value g m), group_members face g members told h.1)

group_tree : (face : Face) (g : Name) → IsTold face → IsOfTree (group_object face g)
group_tree face g told =
    object_tree (map (λ m. (m, face.value g m)) (face.members g))
    (group_members face g (face.members g) told (told.members g))

groups_tree : (face : Face) (groups : List Name) → IsTold face → AllByRecursion IsUtf8 groups
    → NameTrees (map (λ g. (g, group_object face g)) groups)
groups_tree face [] told h = tt
groups_tree face (g ∷ groups) told h =
    ((h.0, group_tree face g told), groups_tree face groups told h.1)

section_tree : (face : Face) → IsTold face → IsOfTree (section_object face)
section_tree face told = object_tree (map (λ g. (g, group_object face g)) face.groups)
    (groups_tree face face.groups told told.groups)

map_tree : (shape : Shape) (face : Face) → IsUtf8 shape.section → IsTold face → IsOfTree (maps.document shape face)
unfolding maps.document
map_tree shape face section told =
    object_tree ((codes "meta", face.meta) ∷ (shape.section, section_object face) ∷ [])
    ((plain_text (codes "meta") refl, told.meta), ((section, section_tree face told), tt))

-- the text of a declared resource's document reads as the document
pub document_reads : (of : Resource) (rows : Rows) → AreGood rows → is_declared rows of ≡ true
    → whole_value (compact_text (document of rows)) ≡ Ok (document of rows)
document_reads of rows good declared =
    whole_value-compact_text (document of rows)
    (map_tree (shape_of of) (face_of of rows) (section_named of)
    (told of rows good (resource_fits rows of (sound_of_good rows good) declared)))
    (document_shallow of rows)
