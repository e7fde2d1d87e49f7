-- Objects of the names that have a value.
use Rattle.std.proofs.Common.{◌≡◌, ◌∙◌, refl, ap}
use Rattle.std.specs.Prelude.{Bool, true, false, cond, List, [], ◌∷◌, Option, Some, None, fold, option_map}
use Rattle.std.specs.List.{filter_map, list_any}
use Rattle.std.specs.Cmp.Lexicographic.{slice_cmp}
use Rattle.std.specs.Ordering.{nat_cmp, match_ordering}
use Rattle.std.specs.declared.cmp.Ordering.{Ordering}
use Rattle.std.specs.declared.cmp.Ordering.TheVariants.{Less, Equal, Greater}
use Rattle.serde_json.specs.Data.{Data, Members, no_members, member, put}
use Rattle.serde_json.specs.Find.{get_member}
use Rattle.json_tree.specs.Document.{with_member, members_of}
use Rattle.json_tree.specs.Order.{AreInOrder}
use Rattle.json_tree.proofs.OrderLemmas.{AreInOrder-with_member}
use Rattle.alto_maps.specs.Shape.{Name, same_name}
use Rattle.alto_maps.proofs.ObjectLemmas.{found-with, none_in_order}
use Rattle.alto_maps.proofs.SetLemmas.{one}

-- the names that have a value, each with its own
abbrev pub valued : (Name → Option Data) → List Name → List (Name × Data)
valued value names = filter_map (λ name. option_map (λ found. (name, found)) (value name)) names

-- there is a member
abbrev pub has_member : List (Name × Data) → Bool
has_member [] = false
has_member (m ∷ ms) = true

-- members with others put one after another
abbrev pub with_members : Members → List (Name × Data) → Members
with_members before ms = fold (λ (others : Members) (m : Name × Data). with_member m.0 m.1 others) before ms

-- the first of two values that is there
abbrev either : Option Data → Option Data → Option Data
either None second = second
either (Some value) second = Some value

found_onto : (value : Name → Option Data) (before : Members) (names : List Name) (q : Name)
    → get_member q (with_members before (valued value names))
    ≡ either (cond (list_any (same_name q) names) (value q) None) (get_member q before)
found_onto value before [] q = refl
found_onto value before (name ∷ names) q = by (value name) refl (same_name q name) refl (list_any (same_name q) names)
    refl (λ more. found_onto value more names q)
  where
    by : (found : Option Data) → value name ≡ found → (same : Bool) → same_name q name ≡ same → (among : Bool)
        → list_any (same_name q) names ≡ among
        → ((more : Members) → get_member q (with_members more (valued value names))
        ≡ either (cond (list_any (same_name q) names) (value q) None) (get_member q more))
        → get_member q (with_members before (valued value (name ∷ names)))
        ≡ either (cond (list_any (same_name q) (name ∷ names)) (value q) None) (get_member q before)
    by None e true s true a below =
        let here : value q ≡ None = ap value (one q name s) ∙ e in rw (e, s, here) (below before ∙ rw (a, here) refl)
    by None e true s false a below =
        let here : value q ≡ None = ap value (one q name s) ∙ e in rw (e, s, here) (below before ∙ rw a refl)
    by None e false s among a below = rw (e, s) (below before)
    by (Some d) e true s true a below =
        let here : value q ≡ Some d = ap value (one q name s) ∙ e in
        rw (e, s, here) (below (with_member name d before) ∙ rw (a, here) refl)
    by (Some d) e true s false a below =
        let here : value q ≡ Some d = ap value (one q name s) ∙ e in
        rw (e, s, here) (below (with_member name d before) ∙ rw a (found-with q name d before ∙ rw s refl))
    by (Some d) e false s among a below =
        let there : get_member q (with_member name d before) ≡ get_member q before =
        found-with q name d before ∙ rw s refl in
        rw (e, s) (below (with_member name d before)
        ∙ ap (either (cond (list_any (same_name q) names) (value q) None)) there)

first_only : (found : Option Data) → either found None ≡ found
first_only None = refl
first_only (Some value) = refl

-- what an object of valued names has at a name
pub found-valued : (value : Name → Option Data) (names : List Name) (q : Name)
    → get_member q (members_of (valued value names)) ≡ cond (list_any (same_name q) names) (value q) None
found-valued value names q = found_onto value no_members names q
    ∙ first_only (cond (list_any (same_name q) names) (value q) None)

in_order_onto : (before : Members) (ms : List (Name × Data)) → AreInOrder before → AreInOrder (with_members before ms)
in_order_onto before [] h = h
in_order_onto before (m ∷ ms) h =
    in_order_onto (with_member m.0 m.1 before) ms (AreInOrder-with_member m.0 m.1 before h)

-- members stand in order
pub in_order-members_of : (ms : List (Name × Data)) → AreInOrder (members_of ms)
in_order-members_of ms = in_order_onto no_members ms none_in_order

-- ---- whether there are any

-- an object has a member
abbrev pub has_some : Members → Bool
has_some no_members = false
has_some (member k d ms) = true

some-put : (k : Name) (d : Data) (ms : Members) → has_some (put k d ms) ≡ true
some-put k d no_members = refl
some-put k d (member l e ms) = by (slice_cmp nat_cmp k l)
  where
    by : (o : Ordering)
        → has_some (match_ordering o (member k d (member l e ms)) (member l d ms) (member l e (put k d ms))) ≡ true
    by Less = refl
    by Equal = refl
    by Greater = refl

some-with : (k : Name) (d : Data) (ms : Members) → has_some (with_member k d ms) ≡ true
unfolding with_member
some-with k d ms = some-put k d ms

some_onto : (before : Members) (ms : List (Name × Data)) → has_some before ≡ true
    → has_some (with_members before ms) ≡ true
some_onto before [] h = h
some_onto before (m ∷ ms) h = some_onto (with_member m.0 m.1 before) ms (some-with m.0 m.1 before)

-- an object has a member where there is one
pub some-members_of : (ms : List (Name × Data)) → has_some (members_of ms) ≡ has_member ms
some-members_of [] = refl
some-members_of (m ∷ ms) = some_onto (with_member m.0 m.1 no_members) ms (some-with m.0 m.1 no_members)
