-- Objects by what they have at each name.
use Rattle.std.proofs.Common.{◌≡◌, refl, ◌∙◌}
use Rattle.std.specs.Prelude.{Bool, true, false, ◌||◌, cond, List, [], ◌∷◌, map, fold, Some, None}
use Rattle.std.specs.List.{list_any}
use Rattle.std.specs.List.Sorted.{IsStrictlySortedBy}
use Rattle.serde_json.specs.Data.{Data, Members, no_members}
use Rattle.serde_json.specs.Find.{get_member}
use Rattle.json_tree.specs.Document.{with_member, members_of}
use Rattle.json_tree.specs.Order.{AreInOrder}
use Rattle.json_tree.proofs.OrderLemmas.{get_member-with, get_member-with_other, AreInOrder-with_member, same_members}
use Rattle.json_patch.specs.Laws.{value_patched}
use Rattle.json_patch.specs.Merge.{members_patched}
use Rattle.json_patch.proofs.MergeLemmas.{AreInOrder-members_patched, value_at}
use Rattle.alto_maps.specs.Shape.{Name, same_name}
use Rattle.alto_maps.proofs.SetLemmas.{one, other_name}

-- what is at a name where a member was put
pub found-with : (q k : Name) (d : Data) (ms : Members)
    → get_member q (with_member k d ms) ≡ cond (same_name q k) (Some d) (get_member q ms)
found-with q k d ms = by (same_name q k) refl
  where
    by : (b : Bool) → same_name q k ≡ b → get_member q (with_member k d ms) ≡ cond b (Some d) (get_member q ms)
    by true e = rw (one q k e) (get_member-with k d ms)
    by false e = get_member-with_other q k d ms (other_name q k e)

-- members that were there, and after them one for each name
abbrev with_named : (Name → Data) → Members → List Name → Members
with_named value before names =
    fold (λ (ms : Members) (m : Name × Data). with_member m.0 m.1 ms) before (map (λ name. (name, value name)) names)

found-fold : (value : Name → Data) (before : Members) (names : List Name) (q : Name)
    → get_member q (with_named value before names) ≡ cond (list_any (same_name q) names) (Some (value q))
    (get_member q before)
found-fold value before [] q = refl
found-fold value before (name ∷ names) q = found-fold value (with_member name (value name) before) names q
    ∙ by (same_name q name) refl (list_any (same_name q) names)
  where
    by : (b : Bool) → same_name q name ≡ b → (among : Bool)
        → cond among (Some (value q)) (get_member q (with_member name (value name) before))
        ≡ cond (b || among) (Some (value q)) (get_member q before)
    by true e true = refl
    by true e false = rw (one q name e) (get_member-with name (value name) before)
    by false e true = refl
    by false e false = get_member-with_other q name (value name) before (other_name q name e)

in_order-fold : (value : Name → Data) (before : Members) (names : List Name) → AreInOrder before
    → AreInOrder (with_named value before names)
in_order-fold value before [] h = h
in_order-fold value before (name ∷ names) h =
    in_order-fold value (with_member name (value name) before) names (AreInOrder-with_member name (value name) before h)

-- the members with these names
abbrev pub named : (Name → Data) → List Name → Members
named value names = members_of (map (λ name. (name, value name)) names)

pub found-named : (value : Name → Data) (names : List Name) (q : Name)
    → get_member q (named value names) ≡ cond (list_any (same_name q) names) (Some (value q)) None
found-named value names q = found-fold value no_members names q

pub none_in_order : AreInOrder no_members
unfolding IsStrictlySortedBy
none_in_order = tt

pub in_order-named : (value : Name → Data) (names : List Name) → AreInOrder (named value names)
in_order-named value names = in_order-fold value no_members names none_in_order

-- a patch leads from members to members, where it does so at each name
pub leads_by_name : (patch before after : Members) → AreInOrder patch → AreInOrder before → AreInOrder after
    → ((q : Name) → value_patched (get_member q before) (get_member q patch) ≡ get_member q after)
    → members_patched patch before ≡ after
leads_by_name patch before after p b a each =
    same_members _ _ (AreInOrder-members_patched patch before b) a (λ q. value_at patch before q p ∙ each q)
