-- Operations lead from map to map.
use Rattle.std.proofs.Common.{◌≡◌, ℕ, ◌+◌, refl, ap, sym, ◌∙◌}
use Rattle.std.specs.Prelude.{Bool, true, false, cond, List, [], ◌∷◌, ◌++◌, map, Option, Some, None, Ok, codes}
use Rattle.std.specs.List.{list_any, flat_map}
use Rattle.serde_json.specs.Data.{Data, object, Members, no_members}
use Rattle.serde_json.specs.Find.{get_member}
use Rattle.json_tree.specs.Document.{with_member, members_of}
use Rattle.json_tree.specs.Order.{AreInOrder}
use Rattle.json_tree.proofs.OrderLemmas.{AreInOrder-with_member, same_members}
use Rattle.json_patch.proofs.MemberLemmas.{without-absent}
use Rattle.alto_maps.specs.Shape.{Name, same_name, Shape, Face, stands, group_object, group_in, member_in}
use Rattle.alto_maps.specs.Shape.{section_object, document}
use Rattle.json_patch.specs.Operations.{replace, Operation, with_value, in_member, changed_at, whole, at_place}
use Rattle.json_patch.specs.Operations.{and_then, applied_from, operations_applied}
use Rattle.alto_maps.specs.Places.{touches_meta, touches_group, touches_member, touched_groups, touched_members}
use Rattle.alto_maps.specs.MergeForm.{part}
use Rattle.alto_maps.specs.OperationForm.{under, on_member, on_members, by_standing, on_group, operation_form}
use Rattle.alto_maps.specs.Differ.{DifferAt}
use Rattle.alto_maps.specs.declared.place.Place.{Place}
use Rattle.alto_maps.specs.Laws.{OperationsLeadOn}
use Rattle.alto_maps.proofs.SetLemmas.{one, itself, other_name, rise-set_of}
use Rattle.alto_maps.proofs.PlaceLemmas.{group_touched, member_touched}
use Rattle.alto_maps.proofs.ObjectLemmas.{named, found-with, found-named, in_order-named}
use Rattle.alto_maps.proofs.GroupLemmas.{members_at, found-members_at, in_order-members_at, group_is, group_stays}
use Rattle.alto_maps.proofs.GroupLemmas.{found-parts, in_order-parts}
use Rattle.alto_maps.proofs.RunLemmas.{ran, found-settled, in_order-settled, in_turn, ran_under, applied_ran}

-- ---- one group that stood and stands

-- the operations on a member bring about what it is
member_done : (m : Name) (old new : Option Data) (ms : Members) → get_member m ms ≡ old
    → ran (on_member m old new) (Some (object ms)) ≡ Ok (Some (object (with_value m new ms)))
member_done m old (Some d) ms is = refl
member_done m (Some d) None ms is = rw is refl
member_done m None None ms is = ap (λ x. Ok (Some (object x))) (sym (without-absent m ms is))

members_done : (shape : Shape) (before after : Face) (places : List Place) (g : Name)
    → DifferAt shape places before after
    → ran (on_members before after g (touched_members g places)) (Some (object (members_at before g)))
    ≡ Ok (Some (object (members_at after g)))
members_done shape before after places g differ =
    in_turn (λ m. on_member m (member_in before g m) (member_in after g m)) (member_in after g) (member_in before g)
    (λ m ms h is. member_done m (member_in before g m) (member_in after g m) ms is)
    (touched_members g places) (members_at before g) (rise-set_of _) (in_order-members_at before g)
    (λ m among. found-members_at before g m)
    ∙ ap (λ x. Ok (Some (object x)))
    (same_members _ _ (in_order-settled (member_in after g) (touched_members g places) (members_at before g)
    (in_order-members_at before g)) (in_order-members_at after g)
    (λ m.
    found-settled (member_in after g) (touched_members g places) (members_at before g) m
    ∙ rw (member_touched g m places, found-members_at before g m, found-members_at after g m)
    (by m (list_any (touches_member g m) places) (differ.members g m))))
  where
    by : (m : Name) (b : Bool) → (b ≡ false → member_in before g m ≡ member_in after g m)
        → cond b (member_in after g m) (member_in before g m) ≡ member_in after g m
    by m true same = refl
    by m false same = same refl

-- ---- the section

-- the operations on a group bring about what it is
group_done : (g : Name) (new : Data) (within : List Operation) (news : Members) (stood stand : Bool) (old ms : Members)
    → AreInOrder ms
    → (stand ≡ true → new ≡ object news)
    → ran within (Some (object old)) ≡ Ok (Some (object news))
    → get_member g ms ≡ cond stood (Some (object old)) None
    → ran (by_standing g new within stood stand) (Some (object ms))
    ≡ Ok (Some (object (with_value g (cond stand (Some new) None) ms)))
group_done g new within news true true old ms h same inside is =
    ran_under g within ms h ∙ (ap (λ x. in_member g ms (ran within x)) is
    ∙ (ap (in_member g ms) inside ∙ ap (λ x. Ok (Some (object (with_value g (Some x) ms)))) (sym (same refl))))
group_done g new within news true false old ms h same inside is = rw is refl
group_done g new within news false true old ms h same inside is = refl
group_done g new within news false false old ms h same inside is =
    ap (λ x. Ok (Some (object x))) (sym (without-absent g ms is))

groups_done : (shape : Shape) (before after : Face) (places : List Place) → DifferAt shape places before after
    → ran (flat_map (on_group before after places) (touched_groups places)) (Some (section_object before))
    ≡ Ok (Some (section_object after))
groups_done shape before after places differ =
    in_turn (on_group before after places) (group_in after) (group_in before)
    (λ g ms h is.
    group_done g (group_object after g) (on_members before after g (touched_members g places)) (members_at after g)
    (stands before g) (stands after g) (members_at before g) ms h
    (λ e. rw e refl) (members_done shape before after places g differ) (is ∙ group_is before g))
    (touched_groups places) (named (group_object before) before.groups) (rise-set_of _)
    (in_order-named (group_object before) before.groups)
    (λ g among. found-named (group_object before) before.groups g)
    ∙ ap (λ x. Ok (Some (object x)))
    (same_members _ _ (in_order-settled (group_in after) (touched_groups places)
    (named (group_object before) before.groups) (in_order-named (group_object before) before.groups))
    (in_order-named (group_object after) after.groups)
    (λ g.
    found-settled (group_in after) (touched_groups places) (named (group_object before) before.groups) g
    ∙ rw (
      group_touched g places,
      found-named (group_object before) before.groups g,
      found-named (group_object after) after.groups g,
    )
    (by g (list_any (touches_group g) places) (group_stays shape before after places g differ))))
  where
    by : (g : Name) (b : Bool) → (b ≡ false → group_in before g ≡ group_in after g)
        → cond b (group_in after g) (group_in before g) ≡ group_in after g
    by g true same = refl
    by g false same = same refl

-- ---- the map

-- an object of two members
abbrev two : Name → Data → Data → Members
two section m s = members_of (part (codes "meta") (Some m) ++ part section (Some s))

meta_is : (section : Name) (m s : Data) → same_name section (codes "meta") ≡ false
    → get_member (codes "meta") (two section m s) ≡ Some m
meta_is section m s apart = found-parts (codes "meta") section (Some m) (Some s) apart
    ∙ by (same_name (codes "meta") section) refl
  where
    by : (b : Bool) → same_name (codes "meta") section ≡ b → cond b (Some s) (Some m) ≡ Some m
    by true e = absurd (other_name section (codes "meta") apart (sym (one (codes "meta") section e)))
    by false e = refl

section_is : (section : Name) (m s : Data) → get_member section (two section m s) ≡ Some s
section_is section m s = found-with section section s (with_member (codes "meta") m no_members)
    ∙ rw (itself section) refl

meta_put : (section : Name) (m n s : Data) → same_name section (codes "meta") ≡ false
    → with_member (codes "meta") n (two section m s) ≡ two section n s
meta_put section m n s apart =
    same_members _ _ (AreInOrder-with_member (codes "meta") n (two section m s)
    (in_order-parts section (Some m) (Some s))) (in_order-parts section (Some n) (Some s))
    (λ q.
    found-with q (codes "meta") n (two section m s)
    ∙ rw (found-parts q section (Some m) (Some s) apart, found-parts q section (Some n) (Some s) apart)
    (by q (same_name q section) (same_name q (codes "meta")) refl refl))
  where
    by : (q : Name) (a b : Bool) → same_name q section ≡ a → same_name q (codes "meta") ≡ b
        → cond b (Some n) (cond a (Some s) (cond b (Some m) None)) ≡ cond a (Some s) (cond b (Some n) None)
    by q true true e i = absurd (other_name section (codes "meta") apart (sym (one q section e)
        ∙ one q (codes "meta") i))
    by q true false e i = refl
    by q false true e i = refl
    by q false false e i = refl

section_put : (section : Name) (m s t : Data) → same_name section (codes "meta") ≡ false
    → with_member section t (two section m s) ≡ two section m t
section_put section m s t apart =
    same_members _ _ (AreInOrder-with_member section t (two section m s) (in_order-parts section (Some m) (Some s)))
    (in_order-parts section (Some m) (Some t))
    (λ q.
    found-with q section t (two section m s)
    ∙ rw (found-parts q section (Some m) (Some s) apart, found-parts q section (Some m) (Some t) apart)
    (by (same_name q section) (same_name q (codes "meta"))))
  where
    by : (a b : Bool) → cond a (Some t) (cond a (Some s) (cond b (Some m) None))
        ≡ cond a (Some t) (cond b (Some m) None)
    by true b = refl
    by false b = refl

-- the operations on the section bring about what it is
section_done : (n : ℕ) (section : Name) (operations : List Operation) (m s t : Data)
    → same_name section (codes "meta") ≡ false
    → ran operations (Some s) ≡ Ok (Some t)
    → applied_from n (map (under section) operations) (object (two section m s)) ≡ Ok (object (two section m t))
section_done n section operations m s t apart lead =
    applied_ran n section operations (two section m s) (object (two section m t))
    (ran_under section operations (two section m s) (in_order-parts section (Some m) (Some s))
    ∙ (ap (λ x. in_member section (two section m s) (ran operations x)) (section_is section m s)
    ∙ (ap (in_member section (two section m s)) lead
    ∙ ap (λ x. Ok (Some (object x))) (section_put section m s t apart))))

-- the operation on the meta, and then those on the section
both_done : (section : Name) (path : List Name) (version m n s t : Data) (operations : List Operation) (touched : Bool)
    → same_name section (codes "meta") ≡ false
    → (touched ≡ false → m ≡ n) → changed_at path (replace version) (Some m) ≡ Ok (Some n)
    → ran operations (Some s) ≡ Ok (Some t)
    → applied_from 0 (cond touched (record { path = codes "meta" ∷ path; action = replace version } ∷ []) []
    ++ map (under section) operations) (object (two section m s))
    ≡ Ok (object (two section n t))
both_done section path version m n s t operations true apart same put lead =
    ap (λ x. and_then (applied_from (0 + 1) (map (under section) operations))
    (at_place 0 (whole (in_member (codes "meta") (two section m s) (changed_at path (replace version) x)))))
    (meta_is section m s apart)
    ∙ (ap (λ x. and_then (applied_from (0 + 1) (map (under section) operations))
    (at_place 0 (whole (in_member (codes "meta") (two section m s) x)))) put
    ∙ (ap (λ x. applied_from (0 + 1) (map (under section) operations) (object x)) (meta_put section m n s apart)
    ∙ section_done (0 + 1) section operations n s t apart lead))
both_done section path version m n s t operations false apart same put lead =
    section_done 0 section operations m s t apart lead ∙ ap (λ x. Ok (object (two section x t))) (same refl)

pub operations_lead_on : OperationsLeadOn
unfolding document operation_form operations_applied
operations_lead_on shape before after places differ =
    both_done shape.section shape.path after.version before.meta after.meta (section_object before)
    (section_object after)
    (flat_map (on_group before after places) (touched_groups places)) (list_any touches_meta places)
    differ.apart differ.meta differ.version (groups_done shape before after places differ)
