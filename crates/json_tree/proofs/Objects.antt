-- The members of a map and of a list beside the data that they stand for.
use Rattle.std.proofs.Common.{◌≡◌, ℕ, ◌+◌, ◌<◌, List, [], ◌∷◌, ◌++◌, length, get_or, take, map, Ordering, Less, Equal}
use Rattle.std.proofs.Common.{Greater, nat_cmp, refl, ap, ◌∙◌}
use Rattle.std.specs.BTreeMap.{insert_entry}
use Rattle.std.specs.Cmp.Lexicographic.{slice_cmp}
use Rattle.std.specs.Ordering.{match_ordering, ordering_reverse}
use Rattle.std.proofs.lemmas.Cmp.{nat_list_cmp_total}
use Rattle.std.specs.List.{AllByRecursion}
use Rattle.std.specs.List.Sorted.{IsStrictlySortedBy}
use Rattle.std.specs.Map.{keys_of}
use Rattle.std.proofs.lemmas.List.{take_more, map-append}
use Rattle.std.proofs.lemmas.List.Sums.{fold-append}
use Rattle.serde_json.specs.Data.{Data, member, put}
use Rattle.json_tree.specs.Document.{with_member, members_of}
use Rattle.json_tree.specs.Tree.{data_of, entries_data}
use Rattle.json_tree.specs.declared.tree.Tree.{Tree}

abbrev pub Entry : Type 0
Entry = List ℕ × Tree

entries_data-match_ordering : (o : Ordering) (a b c : List Entry)
    → entries_data (match_ordering o a b c) ≡ match_ordering o (entries_data a) (entries_data b) (entries_data c)
entries_data-match_ordering Less a b c = refl
entries_data-match_ordering Equal a b c = refl
entries_data-match_ordering Greater a b c = refl

-- a map's insert sets the member
pub entries_data-insert_entry : (es : List Entry) (name : List ℕ) (value : Tree)
    → entries_data (insert_entry (slice_cmp nat_cmp) es name value) ≡ with_member name (data_of value) (entries_data es)
unfolding with_member
entries_data-insert_entry [] name value = refl
entries_data-insert_entry (e ∷ es) name value = entries_data-match_ordering (slice_cmp nat_cmp name e.0) _ _ _
    ∙ rw (entries_data-insert_entry es name value)

-- the same, as a call of `insert` says it
pub entries_insert : (es fs : List Entry) (name : List ℕ) (value : Tree)
    → fs ≡ insert_entry (slice_cmp nat_cmp) es name value
    → entries_data fs ≡ with_member name (data_of value) (entries_data es)
entries_insert es fs name value is = ap entries_data is ∙ entries_data-insert_entry es name value

-- one more member at the end of the list counts last
pub members_of_append : (ms : List (List ℕ × Data)) (m : List ℕ × Data)
    → members_of (ms ++ m ∷ []) ≡ with_member m.0 m.1 (members_of ms)
members_of_append ms m = fold-append _ _ ms (m ∷ [])

-- the same of items that each give a member, as in a loop over an iterator
pub members_of_one_more : {A : Type 0} (f : A → List ℕ × Data) (xs : List A) (x : A)
    → members_of (map f (xs ++ x ∷ [])) ≡ with_member (f x).0 (f x).1 (members_of (map f xs))
members_of_one_more f xs x = ap members_of (map-append f xs (x ∷ [])) ∙ members_of_append (map f xs) (f x)

-- the same by index, as in a loop over a slice
pub members_of_more : {A : Type 0} (f : A → List ℕ × Data) (xs : List A) (i : ℕ) (d : A) → i < length xs
    → members_of (map f (take (i + 1) xs)) ≡ with_member (f (get_or xs i d)).0 (f (get_or xs i d)).1
    (members_of (map f (take i xs)))
members_of_more f xs i d within = ap (λ ys. members_of (map f ys)) (take_more xs i d within)
    ∙ members_of_one_more f (take i xs) (get_or xs i d)

below_middle : (first : Entry) (es : List Entry) (e : Entry) (more : List Entry)
    → AllByRecursion (λ y. slice_cmp nat_cmp first.0 y ≡ Less) (keys_of (es ++ e ∷ more))
    → slice_cmp nat_cmp first.0 e.0 ≡ Less
below_middle first [] e more h = h.0
below_middle first (x ∷ es) e more h = below_middle first es e more h.1

-- a member whose name is above those before it goes last
pub put_last : (done : List Entry) (e : Entry) (more : List Entry)
    → IsStrictlySortedBy (slice_cmp nat_cmp) (keys_of (done ++ e ∷ more))
    → put e.0 (data_of e.1) (entries_data done) ≡ entries_data (done ++ e ∷ [])
unfolding IsStrictlySortedBy
put_last [] e more h = refl
put_last (first ∷ done) e more h =
    let above : slice_cmp nat_cmp e.0 first.0 ≡ Greater = nat_list_cmp_total.antisymm e.0 first.0
    ∙ ap ordering_reverse (below_middle first done e more h.0) in
    rw above (ap (member first.0 (data_of first.1)) (put_last done e more h.1))
