-- A merge form leads from map to map.
use Rattle.std.proofs.Common.{◌≡◌, refl, ap, sym, ◌∙◌}
use Rattle.std.specs.Prelude.{Bool, true, false, cond, List, [], map, ◌∷◌, ◌++◌, Option, Some, None, unwrap_or, Result}
use Rattle.std.specs.Prelude.{Ok, Err, codes}
use Rattle.std.specs.List.{list_any}
use Rattle.serde_json.specs.Data.{Data, null, boolean, number, string, array, object, Members}
use Rattle.serde_json.specs.Find.{get_member}
use Rattle.json_tree.specs.Document.{with_member, members_of}
use Rattle.json_patch.specs.Laws.{value_patched}
use Rattle.json_patch.specs.Merge.{members_in, is_null, members_patched, merge_patched}
use Rattle.alto_maps.specs.Shape.{Name, same_name, Shape, Face, stands, group_object, group_in, member_in}
use Rattle.alto_maps.specs.Shape.{section_object, document}
use Rattle.json_patch.proofs.MergeLemmas.{other_value}
use Rattle.json_patch.specs.Operations.{Refusal, no_target, replace, in_member, changed_at}
use Rattle.alto_maps.specs.Places.{touches_meta, touches_group, touches_member, touched_groups, touched_members}
use Rattle.alto_maps.specs.MergeForm.{part, nested, meta_change, group_change, section_change, merge_form}
use Rattle.alto_maps.specs.Differ.{is_plain, DifferAt}
use Rattle.alto_maps.specs.declared.place.Place.{Place}
use Rattle.alto_maps.specs.Laws.{MergeLeadsOn}
use Rattle.alto_maps.proofs.PlaceLemmas.{group_touched, member_touched}
use Rattle.alto_maps.proofs.GroupLemmas.{members_at, found-members_at, in_order-members_at, group_is, group_stays}
use Rattle.alto_maps.proofs.GroupLemmas.{found-parts, in_order-parts}
use Rattle.alto_maps.proofs.ObjectLemmas.{named, found-named, in_order-named, leads_by_name}

-- ---- one group

plain_not_null : (d : Data) → is_plain d ≡ true → is_null d ≡ false
plain_not_null null plain = cc
plain_not_null (boolean b) plain = refl
plain_not_null (number n) plain = refl
plain_not_null (string s) plain = refl
plain_not_null (array ds) plain = refl
plain_not_null (object ms) plain = refl

-- a plain value takes the place of any other
plain_replaces : (old d : Data) → is_plain d ≡ true → merge_patched old d ≡ d
plain_replaces old d plain = other_value old d (λ ms is. let none : is_plain (object ms)
    ≡ true = ap is_plain (sym is) ∙ plain in cc)

plain_put : (old : Option Data) (d : Data) → is_plain d ≡ true → value_patched old (Some d) ≡ Some d
plain_put old d plain = rw (plain_not_null d plain) (ap Some (plain_replaces (unwrap_or old null) d plain))

-- one member: by whether it is touched, and what it was and is
one_member : (touched : Bool) (old new : Option Data) → (touched ≡ false → old ≡ new)
    → ((d : Data) → new ≡ Some d → is_plain d ≡ true)
    → value_patched old (cond touched (Some (unwrap_or new null)) None) ≡ new
one_member false old new same plain = same refl
one_member true old None same plain = refl
one_member true old (Some d) same plain = plain_put old d (plain d refl)

-- the touched members of a group that stands
abbrev changes : Face → List Place → Name → Members
changes after places g = named (λ m. unwrap_or (member_in after g m) null) (touched_members g places)

members_lead_on : (shape : Shape) (before after : Face) (places : List Place) (g : Name)
    → DifferAt shape places before after
    → members_patched (changes after places g) (members_at before g) ≡ members_at after g
members_lead_on shape before after places g differ =
    leads_by_name (changes after places g) (members_at before g) (members_at after g)
    (in_order-named (λ m. unwrap_or (member_in after g m) null) (touched_members g places))
    (in_order-members_at before g) (in_order-members_at after g)
    (λ m.
    rw (
      found-members_at before g m,
      found-members_at after g m,
      found-named (λ m. unwrap_or (member_in after g m) null) (touched_members g places) m,
      member_touched g m places,
    )
    (one_member (list_any (touches_member g m) places) (member_in before g m) (member_in after g m) (differ.members g m)
    (differ.plain g m)))

-- a touched group
group_lands : (has : Bool) (old : Option Data) (ps ms : Members)
    → members_patched ps (members_in (unwrap_or old null)) ≡ ms
    → value_patched old (Some (cond has (object ps) null)) ≡ cond has (Some (object ms)) None
unfolding merge_patched
group_lands true old ps ms lead = ap (λ x. Some (object x)) lead
group_lands false old ps ms lead = refl

-- ---- the section

groups_lead_on : (shape : Shape) (before after : Face) (places : List Place) → DifferAt shape places before after
    → members_patched (named (group_change after places) (touched_groups places))
    (named (group_object before) before.groups) ≡ named (group_object after) after.groups
groups_lead_on shape before after places differ =
    leads_by_name _ _ _ (in_order-named (group_change after places) (touched_groups places))
    (in_order-named (group_object before) before.groups) (in_order-named (group_object after) after.groups)
    (λ g.
    rw (
      found-named (group_object before) before.groups g,
      found-named (group_object after) after.groups g,
      found-named (group_change after places) (touched_groups places) g,
      group_touched g places,
    )
    (by g (list_any (touches_group g) places) refl))
  where
    by : (g : Name) (b : Bool) → list_any (touches_group g) places ≡ b
        → value_patched (group_in before g) (cond b (Some (group_change after places g)) None) ≡ group_in after g
    by g true e = group_lands (stands after g) (group_in before g) (changes after places g) (members_at after g)
        (members_lead_on shape before after places g differ) ∙ sym (group_is after g)
    by g false e = group_stays shape before after places g differ e

-- ---- the map

nested_not_null : (path : List Name) (version : Data) → is_plain version ≡ true → is_null (nested path version) ≡ false
nested_not_null [] version plain = plain_not_null version plain
nested_not_null (name ∷ path) version plain = refl

-- a replacement of what isn't there isn't done
no_replacement : (path : List Name) (version : Data) → changed_at path (replace version) None ≡ Err no_target
no_replacement [] version = refl
no_replacement (name ∷ path) version = refl

-- and one that is done leaves something
in_member-some : (name : Name) (ms : Members) (r : Result (Option Data) Refusal) → in_member name ms r ≡ Ok None → ⊥
in_member-some name ms (Ok new) e = cc
in_member-some name ms (Err fault) e = cc

replaced_some : (path : List Name) (version old : Data) → changed_at path (replace version) (Some old) ≡ Ok None → ⊥
replaced_some [] version old e = cc
replaced_some (name ∷ path) version null e = cc
replaced_some (name ∷ path) version (boolean b) e = cc
replaced_some (name ∷ path) version (number n) e = cc
replaced_some (name ∷ path) version (string s) e = cc
replaced_some (name ∷ path) version (array ds) e = cc
replaced_some (name ∷ path) version (object ms) e =
    in_member-some name ms (changed_at path (replace version) (get_member name ms)) e

-- a value that is replaced at a path is what a merge of objects along the path puts there
nested_leads_on : (path : List Name) (version old new : Data) → is_plain version ≡ true
    → changed_at path (replace version) (Some old) ≡ Ok (Some new) → merge_patched old (nested path version) ≡ new
unfolding with_member merge_patched
nested_leads_on [] version old new plain done = let same : version ≡ new = cc in plain_replaces old version plain ∙ same
nested_leads_on (name ∷ path) version null new plain done = cc
nested_leads_on (name ∷ path) version (boolean b) new plain done = cc
nested_leads_on (name ∷ path) version (number n) new plain done = cc
nested_leads_on (name ∷ path) version (string s) new plain done = cc
nested_leads_on (name ∷ path) version (array ds) new plain done = cc
nested_leads_on (name ∷ path) version (object ms) new plain done =
    by (get_member name ms) refl done (λ old next. nested_leads_on path version old next plain)
  where
    inside : (old : Data) → get_member name ms ≡ Some old → (r : Result (Option Data) Refusal)
        → changed_at path (replace version) (Some old) ≡ r → in_member name ms r ≡ Ok (Some new)
        → ((next : Data) → changed_at path (replace version) (Some old) ≡ Ok (Some next)
        → merge_patched old (nested path version) ≡ next)
        → merge_patched (object ms) (nested (name ∷ path) version) ≡ new
    inside old is (Err fault) e done rest = cc
    inside old is (Ok None) e done rest = absurd (replaced_some path version old e)
    inside old is (Ok (Some next)) e done rest =
        let whole : object (with_member name next ms) ≡ new = cc in
        rw (nested_not_null path version plain, is) (ap (λ x. object (with_member name x ms)) (rest next e) ∙ whole)

    by : (found : Option Data) → get_member name ms ≡ found
        → in_member name ms (changed_at path (replace version) found) ≡ Ok (Some new)
        → ((old next : Data) → changed_at path (replace version) (Some old) ≡ Ok (Some next)
        → merge_patched old (nested path version) ≡ next)
        → merge_patched (object ms) (nested (name ∷ path) version) ≡ new
    by None is done rest = let gone : in_member name ms (Err no_target) ≡ Ok (Some new) =
        ap (in_member name ms) (sym (no_replacement path version)) ∙ done in cc
    by (Some old) is done rest = inside old is (changed_at path (replace version) (Some old)) refl done (rest old)

-- the meta, by whether it is touched
meta_lands : (touched : Bool) (old change new : Data) → (touched ≡ false → old ≡ new) → is_null change ≡ false
    → merge_patched old change ≡ new
    → value_patched (Some old) (cond touched (Some change) None) ≡ Some new
meta_lands true old change new same told lead = rw told (ap Some lead)
meta_lands false old change new same told lead = ap Some (same refl)

-- the section, by whether a group is touched
section_lands : (change : Name → Data) (names : List Name) (ms ns : Members)
    → members_patched (named change names) ms ≡ ns
    → value_patched (Some (object ms)) (section_change (map (λ g. (g, change g)) names)) ≡ Some (object ns)
unfolding merge_patched
section_lands change [] ms ns lead = ap (λ x. Some (object x)) lead
section_lands change (g ∷ gs) ms ns lead = ap (λ x. Some (object x)) lead

-- both parts
parts_land : (a b : Bool) (meta groups meta_patch groups_patch next others : Option Data)
    → value_patched meta meta_patch ≡ next → value_patched groups groups_patch ≡ others
    → value_patched (cond a groups (cond b meta None)) (cond a groups_patch (cond b meta_patch None))
    ≡ cond a others (cond b next None)
parts_land true b meta groups meta_patch groups_patch next others m g = g
parts_land false true meta groups meta_patch groups_patch next others m g = m
parts_land false false meta groups meta_patch groups_patch next others m g = refl

-- an object of two parts is patched part by part
object_leads_on : (section : Name) (meta groups meta_patch groups_patch next others : Option Data)
    → same_name section (codes "meta") ≡ false
    → value_patched meta meta_patch ≡ next → value_patched groups groups_patch ≡ others
    → members_patched (members_of (part (codes "meta") meta_patch ++ part section groups_patch))
    (members_of (part (codes "meta") meta ++ part section groups))
    ≡ members_of (part (codes "meta") next ++ part section others)
object_leads_on section meta groups meta_patch groups_patch next others apart m g =
    leads_by_name _ _ _ (in_order-parts section meta_patch groups_patch) (in_order-parts section meta groups)
    (in_order-parts section next others)
    (λ q.
    rw (
      found-parts q section meta groups apart,
      found-parts q section meta_patch groups_patch apart,
      found-parts q section next others apart,
    )
    (parts_land (same_name q section) (same_name q (codes "meta")) meta groups meta_patch groups_patch next others m g))

pub merge_leads_on : MergeLeadsOn
unfolding document merge_form merge_patched
merge_leads_on shape before after places differ =
    ap object
    (object_leads_on shape.section (Some before.meta) (Some (section_object before)) (meta_change shape after places)
    (section_change (map (λ g. (g, group_change after places g)) (touched_groups places)))
    (Some after.meta) (Some (section_object after)) differ.apart
    (meta_lands (list_any touches_meta places) before.meta (nested shape.path after.version) after.meta
    differ.meta (nested_not_null shape.path after.version differ.plain_version)
    (nested_leads_on shape.path after.version before.meta after.meta differ.plain_version differ.version))
    (section_lands (group_change after places) (touched_groups places) (named (group_object before) before.groups)
    (named (group_object after) after.groups) (groups_lead_on shape before after places differ)))
