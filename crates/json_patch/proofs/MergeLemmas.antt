-- The laws of merge patches (RFC 7396).
use Rattle.std.proofs.Common.{◌≡◌, ◌⊎◌, inl, inr, ℕ, List, Bool, true, false, if◌then◌else◌, Option, Some, None}
use Rattle.std.proofs.Common.{Ordering, Less, Equal, Greater, nat_cmp, refl, sym, ap, ◌∙◌, subst}
use Rattle.std.specs.Cmp.Lexicographic.{slice_cmp}
use Rattle.std.specs.List.Sorted.{IsStrictlySortedBy}
use Rattle.serde_json.specs.Data.{Data, null, boolean, number, string, array, object, Members, no_members, member}
use Rattle.serde_json.specs.Find.{get, get_member}
use Rattle.json_tree.specs.Document.{with_member}
use Rattle.json_tree.specs.Order.{AreInOrder, StandsInOrder, MembersStandInOrder}
use Rattle.json_tree.proofs.Lookups.{one_name, same_text}
use Rattle.json_tree.proofs.OrderLemmas.{AreAbove, get_member-above, get_member-with, get_member-with_other}
use Rattle.json_tree.proofs.OrderLemmas.{AreInOrder-with_member, MembersStandInOrder-with_member, same_members}
use Rattle.json_patch.specs.Laws.{value_patched}
use Rattle.json_patch.specs.Merge.{members_in, without, value_or_null, is_null, patched, members_patched, merge_patched}
use Rattle.json_patch.proofs.MemberLemmas.{without-absent, get_member-without, get_member-without_other}
use Rattle.json_patch.proofs.MemberLemmas.{AreInOrder-without, MembersStandInOrder-without, StandsInOrder-value_or_null}

-- ---- patches that change nothing, or all

pub null_for_absent : (k : List ℕ) (ms : Members) → get_member k ms ≡ None
    → merge_patched (object ms) (object (member k null no_members)) ≡ object ms
unfolding merge_patched
null_for_absent k ms absent = ap object (without-absent k ms absent)

pub empty_object : (ms : Members) → merge_patched (object ms) (object no_members) ≡ object ms
unfolding merge_patched
empty_object ms = refl

pub other_value : (target patch : Data) → ((ps : Members) → patch ≡ object ps → ⊥) → merge_patched target patch ≡ patch
unfolding merge_patched
other_value target null other = refl
other_value target (boolean b) other = refl
other_value target (number n) other = refl
other_value target (string s) other = refl
other_value target (array ds) other = refl
other_value target (object ps) other = absurd (other ps refl)

-- ---- order

AreInOrder-if : (gone : Bool) (k : List ℕ) (d : Data) (ms : Members) → AreInOrder ms
    → AreInOrder (if gone then without k ms else with_member k d ms)
AreInOrder-if true k d ms h = AreInOrder-without k ms h
AreInOrder-if false k d ms h = AreInOrder-with_member k d ms h

pub AreInOrder-members_patched : (ps ms : Members) → AreInOrder ms → AreInOrder (members_patched ps ms)
AreInOrder-members_patched no_members ms h = h
AreInOrder-members_patched (member k v ps) ms h =
    AreInOrder-members_patched ps _ (AreInOrder-if (is_null v) k (patched v (value_or_null k ms)) ms h)

pub AreInOrder-members_in : (d : Data) → StandsInOrder d → AreInOrder (members_in d)
unfolding IsStrictlySortedBy
AreInOrder-members_in null h = tt
AreInOrder-members_in (boolean b) h = tt
AreInOrder-members_in (number n) h = tt
AreInOrder-members_in (string s) h = tt
AreInOrder-members_in (array ds) h = tt
AreInOrder-members_in (object ms) h = h.0

MembersStandInOrder-members_in : (d : Data) → StandsInOrder d → MembersStandInOrder (members_in d)
MembersStandInOrder-members_in null h = tt
MembersStandInOrder-members_in (boolean b) h = tt
MembersStandInOrder-members_in (number n) h = tt
MembersStandInOrder-members_in (string s) h = tt
MembersStandInOrder-members_in (array ds) h = tt
MembersStandInOrder-members_in (object ms) h = h.1

values-if : (gone : Bool) (k : List ℕ) (d : Data) (ms : Members) → StandsInOrder d → MembersStandInOrder ms
    → MembersStandInOrder (if gone then without k ms else with_member k d ms)
values-if true k d ms v h = MembersStandInOrder-without k ms h
values-if false k d ms v h = MembersStandInOrder-with_member k d ms v h

mutual
  patched_in_order : (patch target : Data) → StandsInOrder target → StandsInOrder patch
      → StandsInOrder (patched patch target)
  patched_in_order null target t p = tt
  patched_in_order (boolean b) target t p = tt
  patched_in_order (number n) target t p = tt
  patched_in_order (string s) target t p = tt
  patched_in_order (array ds) target t p = p
  patched_in_order (object ps) target t p = (
    AreInOrder-members_patched ps (members_in target) (AreInOrder-members_in target t),
    values_in_order ps (members_in target) (MembersStandInOrder-members_in target t) p.1,
  )

  values_in_order : (ps ms : Members) → MembersStandInOrder ms → MembersStandInOrder ps
      → MembersStandInOrder (members_patched ps ms)
  values_in_order no_members ms m p = m
  values_in_order (member k v ps) ms m p =
      values_in_order ps _ (values-if (is_null v) k (patched v (value_or_null k ms))
      ms (patched_in_order v (value_or_null k ms) (StandsInOrder-value_or_null k ms m) p.0) m) p.1

pub order_stays : (target patch : Data) → StandsInOrder target → StandsInOrder patch
    → StandsInOrder (merge_patched target patch)
unfolding merge_patched
order_stays target patch t p = patched_in_order patch target t p

-- ---- the value at a name

value-if : (gone : Bool) (k : List ℕ) (d : Data) (ms : Members)
    → get_member k (if gone then without k ms else with_member k d ms) ≡ (if gone then None else Some d)
value-if true k d ms = get_member-without k ms
value-if false k d ms = get_member-with k d ms

other-if : (gone : Bool) (q k : List ℕ) (d : Data) (ms : Members) → (q ≡ k → ⊥)
    → get_member q (if gone then without k ms else with_member k d ms) ≡ get_member q ms
other-if true q k d ms other = get_member-without_other q k ms other
other-if false q k d ms other = get_member-with_other q k d ms other

apart : (q k : List ℕ) (o : Ordering) → slice_cmp nat_cmp q k ≡ o → (o ≡ Equal → ⊥) → q ≡ k → ⊥
apart q k o is other same = other (sym is ∙ (ap (λ x. slice_cmp nat_cmp x k) same ∙ same_text k))

-- the members after one member of a patch
abbrev patched_by : List ℕ → Data → Members → Members
patched_by k v ms = if is_null v then without k ms else with_member k (patched v (value_or_null k ms)) ms

value_at-by : (o : Ordering) (q k : List ℕ) (v : Data) (ps ms : Members) → slice_cmp nat_cmp q k ≡ o → AreAbove k ps
    → get_member q (members_patched ps (patched_by k v ms)) ≡ value_patched (get_member q (patched_by k v ms))
    (get_member q ps)
    → get_member q (members_patched ps (patched_by k v ms))
    ≡ value_patched (get_member q ms) (get_member q (member k v ps))
unfolding merge_patched
value_at-by Less q k v ps ms is above rest =
    rw is (rest ∙ ap (λ old. value_patched old (get_member q ps))
    (other-if (is_null v) q k (patched v (value_or_null k ms)) ms (apart q k Less is (λ e. cc))))
value_at-by Equal q k v ps ms is above rest =
    let one : q ≡ k = one_name q k is in
    let none : get_member q ps ≡ None = get_member-above q ps (subst (λ x. AreAbove x ps) (sym one) above) in
    let found : get_member q (patched_by k v ms) ≡ (if is_null v then None else Some (patched v (value_or_null q ms))) =
    ap (λ x. get_member x (patched_by k v ms)) one ∙ (value-if (is_null v) k (patched v (value_or_null k ms)) ms
    ∙ ap (λ x. if is_null v then None else Some (patched v (value_or_null x ms))) (sym one)) in
    rw is (rest ∙ rw none found)
value_at-by Greater q k v ps ms is above rest =
    rw is (rest ∙ ap (λ old. value_patched old (get_member q ps))
    (other-if (is_null v) q k (patched v (value_or_null k ms)) ms (apart q k Greater is (λ e. cc))))

pub value_at : (ps ms : Members) (q : List ℕ) → AreInOrder ps
    → get_member q (members_patched ps ms) ≡ value_patched (get_member q ms) (get_member q ps)
unfolding IsStrictlySortedBy
value_at no_members ms q h = refl
value_at (member k v ps) ms q h =
    value_at-by (slice_cmp nat_cmp q k) q k v ps ms refl h.0 (value_at ps (patched_by k v ms) q h.1)

get-members_in : (k : List ℕ) (d : Data) → get_member k (members_in d) ≡ get k d
get-members_in k null = refl
get-members_in k (boolean b) = refl
get-members_in k (number n) = refl
get-members_in k (string s) = refl
get-members_in k (array ds) = refl
get-members_in k (object ms) = refl

pub merge_by_member : (target : Data) (ps : Members) (k : List ℕ) → AreInOrder ps
    → get k (merge_patched target (object ps)) ≡ value_patched (get k target) (get_member k ps)
unfolding merge_patched
merge_by_member target ps k h = value_at ps (members_in target) k h ∙ ap (λ old. value_patched old (get_member k ps))
    (get-members_in k target)

-- ---- patches that name no member in common

either_order : (old p q : Option Data) → (p ≡ None) ⊎ (q ≡ None)
    → value_patched (value_patched old p) q ≡ value_patched (value_patched old q) p
either_order old p q (inl none) = rw none refl
either_order old p q (inr none) = rw none refl

both_orders : (ms ps qs : Members) → AreInOrder ms → AreInOrder ps → AreInOrder qs
    → ((k : List ℕ) → (get_member k ps ≡ None) ⊎ (get_member k qs ≡ None))
    → members_patched qs (members_patched ps ms) ≡ members_patched ps (members_patched qs ms)
both_orders ms ps qs m p q apart_names =
    same_members _ _
    (AreInOrder-members_patched qs _ (AreInOrder-members_patched ps ms m))
    (AreInOrder-members_patched ps _ (AreInOrder-members_patched qs ms m))
    (λ k.
    (value_at qs (members_patched ps ms) k q ∙ ap (λ old. value_patched old (get_member k qs)) (value_at ps ms k p))
    ∙ (either_order (get_member k ms) (get_member k ps) (get_member k qs) (apart_names k)
    ∙ sym (value_at ps (members_patched qs ms) k p ∙ ap (λ old. value_patched old (get_member k ps))
    (value_at qs ms k q))))

pub disjoint_commute : (target : Data) (ps qs : Members) → AreInOrder (members_in target)
    → AreInOrder ps → AreInOrder qs
    → ((k : List ℕ) → (get_member k ps ≡ None) ⊎ (get_member k qs ≡ None))
    → merge_patched (merge_patched target (object ps)) (object qs)
    ≡ merge_patched (merge_patched target (object qs)) (object ps)
unfolding merge_patched
disjoint_commute target ps qs t p q apart_names = ap object (both_orders (members_in target) ps qs t p q apart_names)
