-- Costs that tell what rows do of a source are the members of its group.
use Rattle.std.proofs.Common.{◌≡◌, ◌+◌, ℕ, zero, suc, arith, refl, ap, sym, subst, ◌∙◌, append_assoc}
use Rattle.std.specs.Prelude.{Bool, true, cond, List, [], ◌∷◌, ◌++◌, Option, Some, None, decimal, drop}
use Rattle.std.specs.Prelude.{map}
use Rattle.std.specs.Prelude.{option_map, slice_get}
use Rattle.std.specs.Cmp.Lexicographic.{slice_cmp}
use Rattle.std.specs.List.{flat_map, list_any}
use Rattle.std.specs.List.Sorted.{IsStrictlySortedBy}
use Rattle.std.specs.Map.{keys_of}
use Rattle.std.specs.Ordering.{nat_cmp}
use Rattle.std.specs.declared.cmp.Ordering.{Ordering}
use Rattle.std.specs.declared.cmp.Ordering.TheVariants.{Less, Equal, Greater}
use Rattle.json.specs.Print.{escape_byte, quoted}
use Rattle.json_tree.proofs.OrderLemmas.{same_members}
use Rattle.json_tree.specs.Order.{AreInOrder, names_of}
use Rattle.json_tree.specs.Tree.{members_in_order}
use Rattle.serde_json.specs.Data.{Data, Members, object}
use Rattle.serde_json.specs.Find.{get_member}
use Rattle.serde_json.specs.Written.{comma_if, members_text}
use Rattle.alto_maps.proofs.ObjectLemmas.{found-named, in_order-named}
use Rattle.alto_maps.specs.Shape.{Name, group_object, same_name}
use Rattle.alto_rows.specs.declared.key.Key.TheVariants as key
use Rattle.alto_rows.specs.declared.value.Value.{Value}
use Rattle.alto_rows.specs.Costs.{cost_of}
use Rattle.alto_rows.specs.Good.{AreGood, Fits}
use Rattle.alto_rows.specs.Order.{name_cmp}
use Rattle.alto_rows.specs.Rows.{Rows, has_row, value_of}
use Rattle.cost_docs.specs.CostMap.{cost_face, destinations_of, number_data}
use Rattle.cost_docs.specs.Kept.{cost_member, costs_object}
use Rattle.cost_docs.proofs.StandsLemmas.{a_number, listed_where}
use Rattle.cost_tables.specs.Tables.{Costs, cost_to}

-- ---- the members

-- members of costs
abbrev pub kept : Costs → Members
kept costs = members_in_order (map cost_member costs)

names_kept : (costs : Costs) → names_of (kept costs) ≡ keys_of costs
names_kept [] = refl
names_kept (cost ∷ costs) = ap (λ names. cost.0 ∷ names) (names_kept costs)

-- what is at a name
found_kept : (q : Name) (costs : Costs)
    → get_member q (kept costs) ≡ option_map (λ n. number_data (Some n)) (cost_to costs q)
found_kept q [] = refl
found_kept q (cost ∷ costs) = by (slice_cmp nat_cmp q cost.0) refl (found_kept q costs)
  where
    by : (o : Ordering) → slice_cmp nat_cmp q cost.0 ≡ o
        → get_member q (kept costs) ≡ option_map (λ n. number_data (Some n)) (cost_to costs q)
        → get_member q (kept (cost ∷ costs)) ≡ option_map (λ n. number_data (Some n)) (cost_to (cost ∷ costs) q)
    by Less e rest = rw e rest
    by Equal e rest = rw e refl
    by Greater e rest = rw e rest

-- what the group of a source has there
found_shown : (rows : Rows) (net metric src dst : Name) → AreGood rows
    → cond (list_any (same_name dst) (destinations_of rows net metric src))
    (Some (number_data (cost_of rows net metric src dst))) None
    ≡ option_map (λ n. number_data (Some n)) (cost_of rows net metric src dst)
found_shown rows net metric src dst good = by (value_of rows (key.Cost net metric src dst)) refl
  where
    listed : list_any (same_name dst) (destinations_of rows net metric src) ≡ has_row rows (key.Cost net metric src dst)
    listed = listed_where net metric src dst rows

    by : (found : Option Value) → value_of rows (key.Cost net metric src dst) ≡ found
        → cond (list_any (same_name dst) (destinations_of rows net metric src))
        (Some (number_data (cost_of rows net metric src dst))) None
        ≡ option_map (λ n. number_data (Some n)) (cost_of rows net metric src dst)
    by None e = rw (listed, e) refl
    by (Some v) e =
        let fits : Fits (key.Cost net metric src dst) v = rw e at (good.fit (key.Cost net metric src dst)) in
        rw (listed, e) (a_number net metric src dst v fits.1)

pub kept_group : (rows : Rows) (net metric src : Name) (costs : Costs) → AreGood rows
    → IsStrictlySortedBy name_cmp (keys_of costs)
    → ((dst : Name) → cost_to costs dst ≡ cost_of rows net metric src dst)
    → costs_object costs ≡ group_object (cost_face net metric rows) src
kept_group rows net metric src costs good rise told =
    let value : Name → Data = λ dst. number_data (cost_of rows net metric src dst) in
    let names = destinations_of rows net metric src in
    let in_order : AreInOrder (kept costs) = subst (IsStrictlySortedBy name_cmp) (sym (names_kept costs)) rise in
    ap object
    (same_members (kept costs) _ in_order (in_order-named value names)
    (λ q.
    found_kept q costs
    ∙ (ap (option_map (λ n. number_data (Some n))) (told q)
    ∙ (sym (found_shown rows net metric src q good) ∙ sym (found-named value names q)))))

-- ---- their text

-- a cost at a place is the first of those that are left
pub left_at : (costs : Costs) (place : ℕ) (cost : Name × ℕ) → slice_get costs place ≡ Some cost
    → drop place costs ≡ cost ∷ drop (suc place) costs
left_at [] place cost there = cc
left_at (first ∷ costs) zero cost there = let same : first ≡ cost = cc in ap (λ cost. cost ∷ costs) same
left_at (first ∷ costs) (suc place) cost there = left_at costs place cost there

-- and none is left where there is none
pub none_left : (costs : Costs) (place : ℕ) → slice_get costs place ≡ None → drop place costs ≡ []
none_left [] zero none = refl
none_left [] (suc place) none = refl
none_left (first ∷ costs) zero none = cc
none_left (first ∷ costs) (suc place) none = none_left costs place none

-- a cost as a member, piece by piece
pub member_put : (before opened begun named text name : List ℕ) (cost : ℕ) (later : Bool)
    → flat_map escape_byte name ≡ name
    → opened ≡ before ++ (comma_if later ++ 34 ∷ []) → begun ≡ opened ++ name → named ≡ begun ++ 34 ∷ 58 ∷ []
    → text ≡ named ++ decimal cost → text ≡ before ++ (comma_if later ++ (quoted name ++ 58 ∷ decimal cost))
member_put before opened begun named text name cost later plain first with_name is put =
    let tail = decimal cost in
    let comma = comma_if later in
    rw (put, is, with_name, first, plain)
    (append_assoc ((before ++ (comma ++ 34 ∷ [])) ++ name) (34 ∷ 58 ∷ []) tail
    ∙ (append_assoc (before ++ (comma ++ 34 ∷ [])) name (34 ∷ 58 ∷ tail)
    ∙ (append_assoc before (comma ++ 34 ∷ []) (name ++ 34 ∷ 58 ∷ tail)
    ∙ ap (λ more. before ++ more)
    (append_assoc comma (34 ∷ []) (name ++ 34 ∷ 58 ∷ tail)
    ∙ ap (λ more. comma ++ 34 ∷ more) (sym (append_assoc name (34 ∷ []) (58 ∷ tail)))))))

-- one cost is written
pub text_more : (before text whole : List ℕ) (costs : Costs) (place : ℕ) (cost : Name × ℕ) (later : Bool)
    → slice_get costs place ≡ Some cost
    → text ≡ before ++ (comma_if later ++ (quoted cost.0 ++ 58 ∷ decimal cost.1))
    → before ++ members_text later (kept (drop place costs)) ≡ whole
    → text ++ members_text true (kept (drop (place + 1) costs)) ≡ whole
text_more before text whole costs place cost later there is so_far =
    let next : place + 1 ≡ suc place = omega arith in
    ap (λ place. text ++ members_text true (kept (drop place costs))) next
    ∙ (ap (λ text. text ++ rest) is
    ∙ (append_assoc before (comma_if later ++ (quoted cost.0 ++ 58 ∷ decimal cost.1)) rest
    ∙ (ap (λ text. before ++ text) joined
    ∙ (ap (λ costs. before ++ members_text later (kept costs)) (sym (left_at costs place cost there)) ∙ so_far))))
  where
    rest : List ℕ
    rest = members_text true (kept (drop (suc place) costs))

    joined : (comma_if later ++ (quoted cost.0 ++ 58 ∷ decimal cost.1)) ++ rest
        ≡ comma_if later ++ (quoted cost.0 ++ 58 ∷ (decimal cost.1 ++ rest))
    joined =
        append_assoc (comma_if later) (quoted cost.0 ++ 58 ∷ decimal cost.1) rest
        ∙ ap (λ text. comma_if later ++ text) (append_assoc (quoted cost.0) (58 ∷ decimal cost.1) rest)

-- and the end
pub text_ended : (before text whole : List ℕ) (costs : Costs) (place : ℕ) (later : Bool) → slice_get costs place ≡ None
    → text ≡ before ++ 125 ∷ [] → before ++ members_text later (kept (drop place costs)) ≡ whole → text ≡ whole
text_ended before text whole costs place later none is so_far =
    is ∙ (ap (λ costs. before ++ members_text later (kept costs)) (sym (none_left costs place none)) ∙ so_far)
