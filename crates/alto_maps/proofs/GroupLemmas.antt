-- The groups of a map, and its two parts.
use Rattle.std.proofs.Common.{◌≡◌, refl, ap, ap₂, sym, ◌∙◌}
use Rattle.std.specs.Prelude.{Bool, true, false, ◌&&◌, cond, List, ◌++◌, Option, Some, None, unwrap_or, codes}
use Rattle.std.specs.List.{list_any}
use Rattle.serde_json.specs.Data.{Data, null, object, Members, no_members}
use Rattle.serde_json.specs.Find.{get_member}
use Rattle.json_tree.specs.Document.{with_member, members_of}
use Rattle.json_tree.specs.Order.{AreInOrder}
use Rattle.json_tree.proofs.OrderLemmas.{AreInOrder-with_member, same_members}
use Rattle.json_patch.specs.Merge.{members_in}
use Rattle.alto_maps.specs.Shape.{Name, same_name, Shape, Face, stands, group_object, group_in, member_in}
use Rattle.alto_maps.specs.Places.{touches_group}
use Rattle.alto_maps.specs.MergeForm.{part}
use Rattle.alto_maps.specs.Differ.{DifferAt}
use Rattle.alto_maps.specs.declared.place.Place.{Place}
use Rattle.alto_maps.proofs.SetLemmas.{one}
use Rattle.alto_maps.proofs.PlaceLemmas.{untouched}
use Rattle.alto_maps.proofs.ObjectLemmas.{found-with, found-named, none_in_order, in_order-named}

-- ---- one group

-- the members of a group, none where it doesn't stand
abbrev pub members_at : Face → Name → Members
members_at face g = members_in (unwrap_or (group_in face g) null)

pub found-members_at : (face : Face) (g m : Name) → get_member m (members_at face g) ≡ member_in face g m
found-members_at face g m = by (stands face g)
  where
    by : (b : Bool) → get_member m (members_in (unwrap_or (cond b (Some (group_object face g)) None) null))
        ≡ cond (b && list_any (same_name m) (face.members g)) (Some (face.value g m)) None
    by true = found-named (face.value g) (face.members g) m
    by false = refl

pub in_order-members_at : (face : Face) (g : Name) → AreInOrder (members_at face g)
in_order-members_at face g = by (stands face g)
  where
    by : (b : Bool) → AreInOrder (members_in (unwrap_or (cond b (Some (group_object face g)) None) null))
    by true = in_order-named (face.value g) (face.members g)
    by false = none_in_order

-- a group is its members, where it stands
pub group_is : (face : Face) (g : Name)
    → group_in face g ≡ cond (stands face g) (Some (object (members_at face g))) None
group_is face g = by (stands face g)
  where
    by : (b : Bool) → cond b (Some (group_object face g)) None
        ≡ cond b (Some (object (members_in (unwrap_or (cond b (Some (group_object face g)) None) null)))) None
    by true = refl
    by false = refl

-- a group that isn't touched
pub group_stays : (shape : Shape) (before after : Face) (places : List Place) (g : Name)
    → DifferAt shape places before after
    → list_any (touches_group g) places ≡ false → group_in before g ≡ group_in after g
group_stays shape before after places g differ none =
    let same : members_at before g ≡ members_at after g =
    same_members (members_at before g) (members_at after g) (in_order-members_at before g) (in_order-members_at after g)
    (λ m. found-members_at before g m
    ∙ (differ.members g m (untouched g m places none) ∙ sym (found-members_at after g m))) in
    group_is before g ∙ (ap₂ (λ (b : Bool) (ms : Members). cond b (Some (object ms)) None) (differ.groups g none) same
    ∙ sym (group_is after g))

-- ---- the two parts of an object

-- a name that is the section isn't "meta"
section_alone : {X : Type 0} (q section : Name) (x : Option X) → same_name section (codes "meta") ≡ false
    → (a : Bool) → same_name q section ≡ a
    → cond (same_name q (codes "meta")) x None ≡ cond a None (cond (same_name q (codes "meta")) x None)
section_alone q section x apart true e = rw (one q section e, apart) refl
section_alone q section x apart false e = refl

both_none : (a b : Bool) (none : Option Data) → none ≡ cond a none (cond b none none)
both_none true b x = refl
both_none false true x = refl
both_none false false x = refl

under_none : (a b : Bool) (x none : Option Data) → cond a x none ≡ cond a x (cond b none none)
under_none true b x y = refl
under_none false true x y = refl
under_none false false x y = refl

-- what the parts of an object have at a name
pub found-parts : (q section : Name) (meta groups : Option Data) → same_name section (codes "meta") ≡ false
    → get_member q (members_of (part (codes "meta") meta ++ part section groups))
    ≡ cond (same_name q section) groups (cond (same_name q (codes "meta")) meta None)
found-parts q section None None apart = both_none (same_name q section) (same_name q (codes "meta")) None
found-parts q section (Some m) None apart = found-with q (codes "meta") m no_members
    ∙ section_alone q section (Some m) apart (same_name q section) refl
found-parts q section None (Some s) apart = found-with q section s no_members
    ∙ under_none (same_name q section) (same_name q (codes "meta")) (Some s) None
found-parts q section (Some m) (Some s) apart =
    found-with q section s (with_member (codes "meta") m no_members) ∙ ap (λ x. cond (same_name q section) (Some s) x)
    (found-with q (codes "meta") m no_members)

pub in_order-parts : (section : Name) (meta groups : Option Data)
    → AreInOrder (members_of (part (codes "meta") meta ++ part section groups))
in_order-parts section None None = none_in_order
in_order-parts section (Some m) None = AreInOrder-with_member (codes "meta") m no_members none_in_order
in_order-parts section None (Some s) = AreInOrder-with_member section s no_members none_in_order
in_order-parts section (Some m) (Some s) = AreInOrder-with_member section s (with_member (codes "meta") m no_members)
    (AreInOrder-with_member (codes "meta") m no_members none_in_order)
