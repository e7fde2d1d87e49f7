-- Members in order: what putting keeps, what a name finds, and when two are the same.
use Rattle.std.proofs.Common.{◌≡◌, ℕ, List, [], ◌∷◌, Some, None, Ordering, Less, Equal, Greater, nat_cmp, refl, sym, ap}
use Rattle.std.proofs.Common.{ap₂, ◌∙◌, subst}
use Rattle.std.proofs.lemmas.Cmp.{nat_list_cmp_total}
use Rattle.std.specs.Cmp.Lexicographic.{slice_cmp}
use Rattle.std.specs.List.{AllByRecursion}
use Rattle.std.specs.List.Sorted.{IsStrictlySortedBy}
use Rattle.std.specs.Map.{keys_of}
use Rattle.std.specs.Ordering.{match_ordering, ordering_reverse}
use Rattle.serde_json.specs.Data.{Data, Members, no_members, member}
use Rattle.serde_json.specs.Find.{get_member}
use Rattle.serde_json.proofs.Views.{get_member-put, get_member-put_other}
use Rattle.json_tree.specs.Document.{with_member}
use Rattle.json_tree.specs.Order.{names_of, AreInOrder, StandsInOrder, MembersStandInOrder}
use Rattle.json_tree.specs.Tree.{entries_data}
use Rattle.json_tree.proofs.Lookups.{one_name, get_member-here}
use Rattle.json_tree.proofs.Objects.{Entry}

-- each name of the members is above this one
abbrev pub AreAbove : List ℕ → Members → Type 0
AreAbove k ms = AllByRecursion (λ l. slice_cmp nat_cmp k l ≡ Less) (names_of ms)

pub greater_back : (k l : List ℕ) → slice_cmp nat_cmp k l ≡ Greater → slice_cmp nat_cmp l k ≡ Less
greater_back k l h = nat_list_cmp_total.antisymm l k ∙ ap ordering_reverse h

pub above_lesser : (k l : List ℕ) (ms : Members) → slice_cmp nat_cmp k l ≡ Less → AreAbove l ms → AreAbove k ms
above_lesser k l no_members less h = tt
above_lesser k l (member m d ms) less h = (nat_list_cmp_total.trans k l m less h.0, above_lesser k l ms less h.1)

-- a name below all of the members isn't found
pub get_member-above : (k : List ℕ) (ms : Members) → AreAbove k ms → get_member k ms ≡ None
get_member-above k no_members h = refl
get_member-above k (member l d ms) h = rw h.0 (get_member-above k ms h.1)

-- ---- what was put is found, and nothing else changes

pub get_member-with : (k : List ℕ) (d : Data) (ms : Members) → get_member k (with_member k d ms) ≡ Some d
unfolding with_member
get_member-with k d ms = get_member-put k d ms

pub get_member-with_other : (q k : List ℕ) (d : Data) (ms : Members) → (q ≡ k → ⊥)
    → get_member q (with_member k d ms) ≡ get_member q ms
unfolding with_member
get_member-with_other q k d ms other = get_member-put_other q k d ms other

-- ---- putting keeps the order

above-at : (o : Ordering) (j k l : List ℕ) (d e : Data) (ms : Members) → slice_cmp nat_cmp j k ≡ Less
    → AreAbove j (member l e ms) → AreAbove j (with_member k d ms)
    → AreAbove j (match_ordering o (member k d (member l e ms)) (member l d ms) (member l e (with_member k d ms)))
above-at Less j k l d e ms less h rest = (less, h)
above-at Equal j k l d e ms less h rest = h
above-at Greater j k l d e ms less h rest = (h.0, rest)

AreAbove-with_member : (j k : List ℕ) (d : Data) (ms : Members) → slice_cmp nat_cmp j k ≡ Less → AreAbove j ms
    → AreAbove j (with_member k d ms)
unfolding with_member
AreAbove-with_member j k d no_members less h = (less, tt)
AreAbove-with_member j k d (member l e ms) less h =
    above-at (slice_cmp nat_cmp k l) j k l d e ms less h (AreAbove-with_member j k d ms less h.1)

order-at : (o : Ordering) (k l : List ℕ) (d e : Data) (ms : Members) → slice_cmp nat_cmp k l ≡ o
    → AreInOrder (member l e ms) → AreInOrder (with_member k d ms)
    → AreInOrder (match_ordering o (member k d (member l e ms)) (member l d ms) (member l e (with_member k d ms)))
unfolding IsStrictlySortedBy
order-at Less k l d e ms is h rest = ((is, above_lesser k l ms is h.0), h)
order-at Equal k l d e ms is h rest = h
order-at Greater k l d e ms is h rest = (AreAbove-with_member l k d ms (greater_back k l is) h.0, rest)

pub AreInOrder-with_member : (k : List ℕ) (d : Data) (ms : Members) → AreInOrder ms → AreInOrder (with_member k d ms)
unfolding with_member IsStrictlySortedBy
AreInOrder-with_member k d no_members h = (tt, tt)
AreInOrder-with_member k d (member l e ms) h =
    order-at (slice_cmp nat_cmp k l) k l d e ms refl h (AreInOrder-with_member k d ms h.1)

values-at : (o : Ordering) (k l : List ℕ) (d e : Data) (ms : Members) → StandsInOrder d
    → MembersStandInOrder (member l e ms) → MembersStandInOrder (with_member k d ms)
    → MembersStandInOrder (match_ordering o (member k d (member l e ms)) (member l d ms)
    (member l e (with_member k d ms)))
values-at Less k l d e ms v h rest = (v, h)
values-at Equal k l d e ms v h rest = (v, h.1)
values-at Greater k l d e ms v h rest = (h.0, rest)

pub MembersStandInOrder-with_member : (k : List ℕ) (d : Data) (ms : Members) → StandsInOrder d → MembersStandInOrder ms
    → MembersStandInOrder (with_member k d ms)
unfolding with_member
MembersStandInOrder-with_member k d no_members v h = (v, tt)
MembersStandInOrder-with_member k d (member l e ms) v h =
    values-at (slice_cmp nat_cmp k l) k l d e ms v h (MembersStandInOrder-with_member k d ms v h.1)

-- what is found among members in order stands in order
pub StandsInOrder-found : (k : List ℕ) (ms : Members) (d : Data) → MembersStandInOrder ms → get_member k ms ≡ Some d
    → StandsInOrder d
StandsInOrder-found k no_members d h is = cc
StandsInOrder-found k (member l e ms) d h is = by (slice_cmp nat_cmp k l) is (StandsInOrder-found k ms d h.1)
  where
    by : (o : Ordering) → match_ordering o (get_member k ms) (Some e) (get_member k ms) ≡ Some d
        → (get_member k ms ≡ Some d → StandsInOrder d) → StandsInOrder d
    by Less found rest = rest found
    by Equal found rest = let same : e ≡ d = cc in subst StandsInOrder same h.0
    by Greater found rest = rest found

-- ---- the entries of a map

pub names_of-entries_data : (es : List Entry) → names_of (entries_data es) ≡ keys_of es
names_of-entries_data [] = refl
names_of-entries_data (e ∷ es) = ap (λ ks. e.0 ∷ ks) (names_of-entries_data es)

pub AreInOrder-entries_data : (es : List Entry) → IsStrictlySortedBy (slice_cmp nat_cmp) (keys_of es)
    → AreInOrder (entries_data es)
AreInOrder-entries_data es h = subst (IsStrictlySortedBy (slice_cmp nat_cmp)) (sym (names_of-entries_data es)) h

-- ---- the same value at each name

first_name : (k l : List ℕ) (d e : Data) (ms ns : Members) → AreAbove k ms → AreAbove l ns
    → ((q : List ℕ) → get_member q (member k d ms) ≡ get_member q (member l e ns)) → (o : Ordering)
    → slice_cmp nat_cmp k l ≡ o → k ≡ l
first_name k l d e ms ns above beyond same Equal is = one_name k l is
first_name k l d e ms ns above beyond same Less is =
    let here : Some d ≡ get_member k (member l e ns) = sym (get_member-here k d ms) ∙ same k in
    let none : get_member k (member l e ns) ≡ None =
    get_member-above k (member l e ns) (is, above_lesser k l ns is beyond) in
    absurd (some_none (here ∙ none))
  where
    some_none : {x : Data} → Some x ≡ None → ⊥
    some_none h = cc
first_name k l d e ms ns above beyond same Greater is =
    let less : slice_cmp nat_cmp l k ≡ Less = greater_back k l is in
    let here : Some e ≡ get_member l (member k d ms) = sym (get_member-here l e ns) ∙ sym (same l) in
    let none : get_member l (member k d ms) ≡ None =
    get_member-above l (member k d ms) (less, above_lesser l k ms less above) in
    absurd (some_none (here ∙ none))
  where
    some_none : {x : Data} → Some x ≡ None → ⊥
    some_none h = cc

rest_same : (q k : List ℕ) (d e : Data) (ms ns : Members) → AreAbove k ms → AreAbove k ns
    → get_member q (member k d ms) ≡ get_member q (member k e ns) → (o : Ordering) → slice_cmp nat_cmp q k ≡ o
    → get_member q ms ≡ get_member q ns
rest_same q k d e ms ns above beyond same Less is = rw is at same
rest_same q k d e ms ns above beyond same Greater is = rw is at same
rest_same q k d e ms ns above beyond same Equal is =
    let one : q ≡ k = one_name q k is in
    rw (one, get_member-above k ms above, get_member-above k ns beyond)

pub same_members : (ms ns : Members) → AreInOrder ms → AreInOrder ns
    → ((q : List ℕ) → get_member q ms ≡ get_member q ns) → ms ≡ ns
unfolding IsStrictlySortedBy
same_members no_members no_members h i same = refl
same_members no_members (member l e ns) h i same = let found : None ≡ Some e = same l ∙ get_member-here l e ns in cc
same_members (member k d ms) no_members h i same = let found : Some d ≡ None = sym (get_member-here k d ms) ∙ same k in
    cc
same_members (member k d ms) (member l e ns) h i same =
    let one : k ≡ l = first_name k l d e ms ns h.0 i.0 same _ refl in
    let beyond : AreAbove k ns = subst (λ x. AreAbove x ns) (sym one) i.0 in
    let again : (q : List ℕ) → get_member q (member k d ms) ≡ get_member q (member k e ns) = λ q. same q
    ∙ ap (λ x. get_member q (member x e ns)) (sym one) in
    let value : Some d ≡ Some e = sym (get_member-here k d ms) ∙ (again k ∙ get_member-here k e ns) in
    let rest : ms ≡ ns = same_members ms ns h.1 i.1 (λ q. rest_same q k d e ms ns h.0 beyond (again q) _ refl) in
    let alike : d ≡ e = cc in
    ap (λ x. member x d ms) one ∙ ap₂ (member l) alike rest
