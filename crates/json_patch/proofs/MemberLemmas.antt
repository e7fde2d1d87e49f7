-- Members without the one of a name: what is found, what stays in order, and what a map's removal leaves.
use Rattle.std.proofs.Common.{◌≡◌, ℕ, List, [], ◌∷◌, Option, Some, None, option_map, unwrap_or, cond, is_eq, Ordering}
use Rattle.std.proofs.Common.{Less, Equal, Greater, nat_cmp, refl, sym, ap, ◌∙◌, subst}
use Rattle.std.specs.BTreeMap.{is_at}
use Rattle.std.specs.Cmp.Lexicographic.{slice_cmp}
use Rattle.std.specs.List.Sorted.{IsStrictlySortedBy}
use Rattle.std.specs.Map.{lookup, remove_entry}
use Rattle.std.specs.Ordering.{match_ordering}
use Rattle.serde_json.specs.Data.{Data, null, Members, no_members, member}
use Rattle.serde_json.specs.Find.{get_member}
use Rattle.json_tree.specs.Document.{with_member}
use Rattle.json_tree.specs.Order.{AreInOrder, StandsInOrder, MembersStandInOrder}
use Rattle.json_tree.specs.Tree.{data_of, entries_data}
use Rattle.json_tree.specs.declared.tree.Tree.{Tree}
use Rattle.json_tree.specs.declared.tree.Tree.TheVariants as tree
use Rattle.json_tree.proofs.Lookups.{one_name, get_member-later}
use Rattle.json_tree.proofs.Objects.{Entry}
use Rattle.json_tree.proofs.OrderLemmas.{AreAbove, above_lesser, StandsInOrder-found}
use Rattle.json_tree.proofs.Trees.{data_of_null}
use Rattle.json_patch.specs.Merge.{without, value_or_null}

-- ---- what is found

pub without-above : (k : List ℕ) (ms : Members) → AreAbove k ms → without k ms ≡ ms
without-above k no_members h = refl
without-above k (member l d ms) h = rw h.0 (ap (member l d) (without-above k ms h.1))

pub without-absent : (k : List ℕ) (ms : Members) → get_member k ms ≡ None → without k ms ≡ ms
without-absent k no_members h = refl
without-absent k (member l d ms) h = by (slice_cmp nat_cmp k l) h (without-absent k ms)
  where
    by : (o : Ordering) → match_ordering o (get_member k ms) (Some d) (get_member k ms) ≡ None
        → (get_member k ms ≡ None → without k ms ≡ ms)
        → match_ordering o (member l d (without k ms)) (without k ms) (member l d (without k ms)) ≡ member l d ms
    by Less none rest = ap (member l d) (rest none)
    by Equal none rest = cc
    by Greater none rest = ap (member l d) (rest none)

pub get_member-without : (k : List ℕ) (ms : Members) → get_member k (without k ms) ≡ None
get_member-without k no_members = refl
get_member-without k (member l d ms) = by (slice_cmp nat_cmp k l) refl (get_member-without k ms)
  where
    by : (o : Ordering) → slice_cmp nat_cmp k l ≡ o → get_member k (without k ms) ≡ None
        → get_member k (match_ordering o (member l d (without k ms)) (without k ms) (member l d (without k ms))) ≡ None
    by Less is rest = rw is rest
    by Equal is rest = rest
    by Greater is rest = rw is rest

pub get_member-without_other : (q k : List ℕ) (ms : Members) → (q ≡ k → ⊥)
    → get_member q (without k ms) ≡ get_member q ms
get_member-without_other q k no_members other = refl
get_member-without_other q k (member l d ms) other =
    by (slice_cmp nat_cmp k l) refl (get_member-without_other q k ms other)
  where
    by : (o : Ordering) → slice_cmp nat_cmp k l ≡ o → get_member q (without k ms) ≡ get_member q ms
        → get_member q (match_ordering o (member l d (without k ms)) (without k ms) (member l d (without k ms)))
        ≡ get_member q (member l d ms)
    by Less is rest = ap (λ r. match_ordering (slice_cmp nat_cmp q l) r (Some d) r) rest
    by Equal is rest = rest ∙ sym (get_member-later q l d ms (λ same. other (same ∙ sym (one_name k l is))))
    by Greater is rest = ap (λ r. match_ordering (slice_cmp nat_cmp q l) r (Some d) r) rest

-- ---- what stays in order

AreAbove-without : (j k : List ℕ) (ms : Members) → AreAbove j ms → AreAbove j (without k ms)
AreAbove-without j k no_members h = h
AreAbove-without j k (member l d ms) h = by (slice_cmp nat_cmp k l) (AreAbove-without j k ms h.1)
  where
    by : (o : Ordering) → AreAbove j (without k ms)
        → AreAbove j (match_ordering o (member l d (without k ms)) (without k ms) (member l d (without k ms)))
    by Less rest = (h.0, rest)
    by Equal rest = rest
    by Greater rest = (h.0, rest)

order-at : (o : Ordering) (k l : List ℕ) (d : Data) (ms : Members) → AreAbove l (without k ms)
    → AreInOrder (without k ms)
    → AreInOrder (match_ordering o (member l d (without k ms)) (without k ms) (member l d (without k ms)))
unfolding IsStrictlySortedBy
order-at Less k l d ms above rest = (above, rest)
order-at Equal k l d ms above rest = rest
order-at Greater k l d ms above rest = (above, rest)

pub AreInOrder-without : (k : List ℕ) (ms : Members) → AreInOrder ms → AreInOrder (without k ms)
unfolding IsStrictlySortedBy
AreInOrder-without k no_members h = h
AreInOrder-without k (member l d ms) h = order-at (slice_cmp nat_cmp k l) k l d ms (AreAbove-without l k ms h.0)
    (AreInOrder-without k ms h.1)

pub MembersStandInOrder-without : (k : List ℕ) (ms : Members) → MembersStandInOrder ms
    → MembersStandInOrder (without k ms)
MembersStandInOrder-without k no_members h = h
MembersStandInOrder-without k (member l d ms) h = by (slice_cmp nat_cmp k l) (MembersStandInOrder-without k ms h.1)
  where
    by : (o : Ordering) → MembersStandInOrder (without k ms)
        → MembersStandInOrder (match_ordering o (member l d (without k ms)) (without k ms) (member l d (without k ms)))
    by Less rest = (h.0, rest)
    by Equal rest = rest
    by Greater rest = (h.0, rest)

pub StandsInOrder-value_or_null : (k : List ℕ) (ms : Members) → MembersStandInOrder ms
    → StandsInOrder (value_or_null k ms)
StandsInOrder-value_or_null k ms h = by (get_member k ms) (StandsInOrder-found k ms)
  where
    by : (found : Option Data) → ((d : Data) → MembersStandInOrder ms → found ≡ Some d → StandsInOrder d)
        → StandsInOrder (unwrap_or found null)
    by None each = tt
    by (Some d) each = each d h refl

-- ---- putting after taking out

with_member-above : (k : List ℕ) (d : Data) (ms : Members) → AreAbove k ms → with_member k d ms ≡ member k d ms
unfolding with_member
with_member-above k d no_members h = refl
with_member-above k d (member l e ms) h = rw h.0 refl

put-at : (o : Ordering) (k l : List ℕ) (d e : Data) (ms : Members) → slice_cmp nat_cmp k l ≡ o → AreAbove l ms
    → with_member k d (without k ms) ≡ with_member k d ms
    → with_member k d (match_ordering o (member l e (without k ms)) (without k ms) (member l e (without k ms)))
    ≡ match_ordering o (member k d (member l e ms)) (member l d ms) (member l e (with_member k d ms))
unfolding with_member
put-at Less k l d e ms is h rest =
    rw is (ap (λ others. member k d (member l e others)) (without-above k ms (above_lesser k l ms is h)))
put-at Equal k l d e ms is h rest =
    let one : k ≡ l = one_name k l is in
    let above : AreAbove k ms = subst (λ x. AreAbove x ms) (sym one) h in
    rest ∙ (with_member-above k d ms above ∙ ap (λ x. member x d ms) one)
put-at Greater k l d e ms is h rest = rw is (ap (member l e) rest)

-- what is put where the member was taken out is put in its place
pub with_member-without : (k : List ℕ) (d : Data) (ms : Members) → AreInOrder ms
    → with_member k d (without k ms) ≡ with_member k d ms
unfolding with_member IsStrictlySortedBy
with_member-without k d no_members h = refl
with_member-without k d (member l e ms) h =
    put-at (slice_cmp nat_cmp k l) k l d e ms refl h.0 (with_member-without k d ms h.1)

-- ---- the entries of a map

found_or : (o : Ordering) (tree : Tree) (rest : Option Tree) (d : Option Data) → option_map data_of rest ≡ d
    → option_map data_of (cond (is_eq o) (Some tree) rest) ≡ match_ordering o d (Some (data_of tree)) d
found_or Less tree rest d e = e
found_or Equal tree rest d e = refl
found_or Greater tree rest d e = e

-- what a map finds at a name
pub data_of-lookup : (name : List ℕ) (es : List Entry)
    → option_map data_of (lookup (is_at (slice_cmp nat_cmp name)) es) ≡ get_member name (entries_data es)
data_of-lookup name [] = refl
data_of-lookup name (e ∷ es) = found_or (slice_cmp nat_cmp name e.0) e.1 _ _ (data_of-lookup name es)

removed-at : (o : Ordering) (name : List ℕ) (e : Entry) (es : List Entry) → slice_cmp nat_cmp name e.0 ≡ o
    → AreAbove e.0 (entries_data es)
    → entries_data (remove_entry (is_at (slice_cmp nat_cmp name)) es) ≡ without name (entries_data es)
    → entries_data (cond (is_eq o) es (e ∷ remove_entry (is_at (slice_cmp nat_cmp name)) es))
    ≡ match_ordering o (member e.0 (data_of e.1) (without name (entries_data es))) (without name (entries_data es))
    (member e.0 (data_of e.1) (without name (entries_data es)))
removed-at Less name e es is h rest = ap (member e.0 (data_of e.1)) rest
removed-at Equal name e es is h rest =
    let one : name ≡ e.0 = one_name name e.0 is in
    sym (without-above name (entries_data es) (subst (λ x. AreAbove x (entries_data es)) (sym one) h))
removed-at Greater name e es is h rest = ap (member e.0 (data_of e.1)) rest

-- what a map's removal leaves
pub entries_data-remove_entry : (name : List ℕ) (es : List Entry) → AreInOrder (entries_data es)
    → entries_data (remove_entry (is_at (slice_cmp nat_cmp name)) es) ≡ without name (entries_data es)
unfolding IsStrictlySortedBy
entries_data-remove_entry name [] h = refl
entries_data-remove_entry name (e ∷ es) h =
    removed-at (slice_cmp nat_cmp name e.0) name e es refl h.0 (entries_data-remove_entry name es h.1)

-- the same, as a call of `remove` says it
pub taken_others : (es fs : List Entry) (name : List ℕ) → AreInOrder (entries_data es)
    → fs ≡ remove_entry (is_at (slice_cmp nat_cmp name)) es → entries_data fs ≡ without name (entries_data es)
taken_others es fs name h is = ap entries_data is ∙ entries_data-remove_entry name es h

data_of-unwrap_or : (found : Option Tree)
    → data_of (unwrap_or found tree.Null) ≡ unwrap_or (option_map data_of found) null
data_of-unwrap_or None = data_of_null
data_of-unwrap_or (Some value) = refl

-- the value that a removal gives
pub taken_value : (es : List Entry) (name : List ℕ) (found : Option Tree)
    → found ≡ lookup (is_at (slice_cmp nat_cmp name)) es
    → data_of (unwrap_or found tree.Null) ≡ value_or_null name (entries_data es)
taken_value es name found is = data_of-unwrap_or found
    ∙ ap (λ d. unwrap_or d null) (ap (option_map data_of) is ∙ data_of-lookup name es)
