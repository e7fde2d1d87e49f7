-- Changes that a stable sort puts in the order of their keys do what they did, and so does the last of each key.
use Rattle.std.proofs.Common.{◌≡◌, ℕ, ◌≤◌, suc, refl, ap, sym, ◌∙◌, subst, arith, add-one, drop, append-nil}
use Rattle.std.proofs.Math.Path.{fun_ext}
use Rattle.std.proofs.lemmas.List.{drop_all}
use Rattle.std.specs.Prelude.{Bool, true, false, not, ◌&&◌, ⊤, cond, List, [], ◌∷◌, ◌++◌, filter, length, Option, None}
use Rattle.std.specs.List.{AllByRecursion}
use Rattle.std.specs.List.Sorted.{IsSortedByKey, IsStableByKey, IsStrictlySortedBy}
use Rattle.std.specs.Map.{keys_of}
use Rattle.std.specs.Ordering.{is_eq, is_lt, ordering_reverse}
use Rattle.std.specs.declared.cmp.Ordering.{Ordering}
use Rattle.std.specs.declared.cmp.Ordering.TheVariants.{Less, Equal, Greater}
use Rattle.alto_rows.specs.declared.key.Key.{Key}
use Rattle.alto_rows.specs.declared.value.Value.{Value}
use Rattle.alto_rows.specs.declared.write.Write.{Write}
use Rattle.alto_rows.specs.Changes.{Changes, AreOrdered, DoAs, changed}
use Rattle.alto_rows.specs.Order.{key_cmp}
use Rattle.alto_rows.specs.Rows.{Rows, AreSorted, value_of, with_value}
use Rattle.alto_rows.proofs.ChangeLemmas.{sorted_changed}
use Rattle.alto_rows.proofs.OrderLemmas.{key_cmp_exact, key_cmp_total}
use Rattle.alto_rows.proofs.RowsLemmas.{greater_back, same_rows}
use Rattle.alto_rows.proofs.WriteLemmas.{sorted_with_value, value_of-with_value}
use Rattle.row_chunks.specs.Made.{OneChange, changes_made, last_of}
use Rattle.row_chunks.proofs.RisingLemmas.{less_tests, made_do}

-- ---- changes in another order

-- the value that changes leave at a key, from the value before them
abbrev value_left : Option Value → Changes → Key → Option Value
value_left old [] at = old
value_left old (change ∷ changes) at = value_left (cond (is_eq (key_cmp at change.0)) change.1 old) changes at

-- a key has what they leave there
value_of-changes : (rows : Rows) (changes : Changes) (at : Key) → AreSorted rows
    → value_of (changed rows changes) at ≡ value_left (value_of rows at) changes at
value_of-changes rows [] at s = refl
value_of-changes rows (change ∷ changes) at s =
    value_of-changes (with_value rows change.0 change.1) changes at (sorted_with_value rows change.0 change.1 s)
    ∙ ap (λ (old : Option Value). value_left old changes at) (value_of-with_value rows change.0 change.1 at s)

-- it hangs on the changes of that key alone
value_left-own : (old : Option Value) (changes : Changes) (at : Key)
    → value_left old changes at ≡ value_left old (filter (λ change. is_eq (key_cmp at change.0)) changes) at
value_left-own old [] at = refl
value_left-own old (change ∷ changes) at =
    by (λ value. value_left-own value changes at) (is_eq (key_cmp at change.0)) refl
  where
    own : Changes
    own = filter (λ change. is_eq (key_cmp at change.0)) changes

    by : ((value : Option Value) → value_left value changes at
        ≡ value_left value (filter (λ change. is_eq (key_cmp at change.0)) changes) at) → (b : Bool)
        → is_eq (key_cmp at change.0) ≡ b
        → value_left old (change ∷ changes) at
        ≡ value_left old (filter (λ change. is_eq (key_cmp at change.0)) (change ∷ changes)) at
    by below true e =
        ap (λ (b : Bool). value_left (cond b change.1 old) changes at) e ∙ below change.1
        ∙ sym (ap (λ (b : Bool). value_left (cond b change.1 old) own at) e)
        ∙ sym (ap (λ (b : Bool). value_left old (cond b (change ∷ own) own) at) e)
    by below false e =
        ap (λ (b : Bool). value_left (cond b change.1 old) changes at) e ∙ below old
        ∙ sym (ap (λ (b : Bool). value_left old (cond b (change ∷ own) own) at) e)

-- keys tie where neither is less
tied : (a b : Key) → not (is_lt (key_cmp a b)) && not (is_lt (key_cmp b a)) ≡ is_eq (key_cmp a b)
tied a b = by (key_cmp a b) refl
  where
    by : (o : Ordering) → key_cmp a b ≡ o
        → not (is_lt (key_cmp a b)) && not (is_lt (key_cmp b a)) ≡ is_eq (key_cmp a b)
    by Less e = rw e refl
    by Equal e =
        let back : key_cmp b a ≡ Equal = key_cmp_total.antisymm b a ∙ ap ordering_reverse e in
        rw (e, back) refl
    by Greater e = rw (e, greater_back a b e) refl

-- the changes of a key stand as they did
own_stable : (changes all : Changes) → IsStableByKey (λ (change : OneChange). change.0) key_cmp changes all → (at : Key)
    → filter (λ (change : OneChange). is_eq (key_cmp at change.0)) all
    ≡ filter (λ (change : OneChange). is_eq (key_cmp at change.0)) changes
own_stable changes all stable at =
    subst (λ (test : OneChange → Bool). filter test all ≡ filter test changes)
    (fun_ext (λ change. tied at change.0)) (stable (at, None))

-- so in the new order they do the same
stable_changed : (changes all : Changes) → IsStableByKey (λ (change : OneChange). change.0) key_cmp changes all
    → (rows : Rows) → AreSorted rows → changed rows all ≡ changed rows changes
stable_changed changes all stable rows s =
    same_rows (changed rows all) (changed rows changes) (sorted_changed rows all s) (sorted_changed rows changes s)
    (λ at. value_of-changes rows all at s ∙ value_left-own (value_of rows at) all at
    ∙ ap (λ (own : Changes). value_left (value_of rows at) own at) (own_stable changes all stable at)
    ∙ sym (value_left-own (value_of rows at) changes at) ∙ sym (value_of-changes rows changes at s))

-- ---- the last of each key

-- the last change of each key, of changes in the order of their keys
abbrev pub last_changes : Changes → Changes
last_changes [] = []
last_changes (change ∷ behind) = last_of change behind ++ last_changes behind

-- no key falls
abbrev pub Rise : Changes → Type 0
Rise [] = ⊤
Rise (change ∷ []) = ⊤
Rise (change ∷ next ∷ behind) = (is_lt (key_cmp next.0 change.0) ≡ false) × Rise (next ∷ behind)

-- changes that are sorted by their keys don't fall
pub rise_sorted : (changes : Changes) → IsSortedByKey (λ (change : OneChange). change.0) key_cmp changes → Rise changes
rise_sorted [] s = tt
rise_sorted (change ∷ []) s = tt
rise_sorted (change ∷ next ∷ behind) s =
    let rest : IsSortedByKey (λ (change : OneChange). change.0) key_cmp (next ∷ behind) =
    λ k d p q. rw add-one (rw add-one at (s (suc k) d (omega arith) (omega arith))) in
    (s 0 change (omega arith) (omega arith), rise_sorted (next ∷ behind) rest)

-- keys of which neither is less are one
neither : (a b : Key) → is_lt (key_cmp a b) ≡ false → is_lt (key_cmp b a) ≡ false → a ≡ b
neither a b h k = by (key_cmp a b) refl
  where
    by : (o : Ordering) → key_cmp a b ≡ o → a ≡ b
    by Less e = let both : is_lt Less ≡ false = rw e at h in cc
    by Equal e = key_cmp_exact a b e
    by Greater e = let both : is_lt Less ≡ false = rw (greater_back a b e) at k in cc

-- a first change that is after a key
abbrev IsPast : Key → Changes → Type 0
IsPast low [] = ⊤
IsPast low (change ∷ behind) = key_cmp low change.0 ≡ Less

-- so are the last of each key of all
past_last : (low : Key) (changes : Changes) → Rise changes → IsPast low changes
    → AllByRecursion (λ key. key_cmp low key ≡ Less) (keys_of (last_changes changes))
past_last low [] r p = tt
past_last low (change ∷ []) r p = (p, tt)
past_last low (change ∷ next ∷ behind) r p =
    by (past_last low (next ∷ behind) r.1) (is_lt (key_cmp change.0 next.0)) refl
  where
    by : (key_cmp low next.0 ≡ Less
        → AllByRecursion (λ key. key_cmp low key ≡ Less) (keys_of (last_changes (next ∷ behind))))
        → (b : Bool) → is_lt (key_cmp change.0 next.0) ≡ b
        → AllByRecursion (λ key. key_cmp low key ≡ Less) (keys_of (last_changes (change ∷ next ∷ behind)))
    by below true e =
        rw e (p, below (key_cmp_total.trans low change.0 next.0 p (less_tests (key_cmp change.0 next.0) e)))
    by below false e =
        rw e (below (subst (λ (key : Key). key_cmp low key ≡ Less) (neither change.0 next.0 e r.0) p))

-- the last of each key rise
pub ordered_last : (changes : Changes) → Rise changes → AreOrdered (last_changes changes)
unfolding IsStrictlySortedBy
ordered_last [] r = tt
ordered_last (change ∷ []) r = (tt, tt)
ordered_last (change ∷ next ∷ behind) r =
    by (ordered_last (next ∷ behind) r.1) (past_last change.0 (next ∷ behind) r.1) (is_lt (key_cmp change.0 next.0))
    refl
  where
    by : AreOrdered (last_changes (next ∷ behind))
        → (key_cmp change.0 next.0 ≡ Less
        → AllByRecursion (λ key. key_cmp change.0 key ≡ Less) (keys_of (last_changes (next ∷ behind))))
        → (b : Bool) → is_lt (key_cmp change.0 next.0) ≡ b
        → AreOrdered (last_changes (change ∷ next ∷ behind))
    by below past true e = rw e (past (less_tests (key_cmp change.0 next.0) e), below)
    by below past false e = rw e below

-- of two writes of a key the second stays
written_twice : (rows : Rows) (first second : OneChange) → first.0 ≡ second.0 → AreSorted rows
    → with_value (with_value rows first.0 first.1) second.0 second.1 ≡ with_value rows second.0 second.1
written_twice rows first second same s =
    let once : AreSorted (with_value rows first.0 first.1) = sorted_with_value rows first.0 first.1 s in
    same_rows (with_value (with_value rows first.0 first.1) second.0 second.1) (with_value rows second.0 second.1)
    (sorted_with_value (with_value rows first.0 first.1) second.0 second.1 once)
    (sorted_with_value rows second.0 second.1 s)
    (λ at. value_of-with_value (with_value rows first.0 first.1) second.0 second.1 at once
    ∙ ap (λ (old : Option Value). cond (is_eq (key_cmp at second.0)) second.1 old)
    (value_of-with_value rows first.0 first.1 at s
    ∙ ap (λ (key : Key). cond (is_eq (key_cmp at key)) first.1 (value_of rows at)) same)
    ∙ twice (is_eq (key_cmp at second.0)) second.1 first.1 (value_of rows at)
    ∙ sym (value_of-with_value rows second.0 second.1 at s))
  where
    twice : (b : Bool) (value other old : Option Value) → cond b value (cond b other old) ≡ cond b value old
    twice true value other old = refl
    twice false value other old = refl

-- the last of each key do what all do
pub changed_last : (changes : Changes) → Rise changes → (rows : Rows) → AreSorted rows
    → changed rows (last_changes changes) ≡ changed rows changes
changed_last [] r rows s = refl
changed_last (change ∷ []) r rows s = refl
changed_last (change ∷ next ∷ behind) r rows s =
    by (changed_last (next ∷ behind) r.1) (is_lt (key_cmp change.0 next.0)) refl
  where
    by : ((rows : Rows) → AreSorted rows → changed rows (last_changes (next ∷ behind)) ≡ changed rows (next ∷ behind))
        → (b : Bool) → is_lt (key_cmp change.0 next.0) ≡ b
        → changed rows (last_changes (change ∷ next ∷ behind)) ≡ changed rows (change ∷ next ∷ behind)
    by below true e =
        rw e (below (with_value rows change.0 change.1) (sorted_with_value rows change.0 change.1 s))
    by below false e =
        rw e
        (below rows s
        ∙ ap (λ (more : Rows). changed more behind)
        (sym (written_twice rows change next (neither change.0 next.0 e r.0) s)))

-- a loop that has gone through all changes has the last of each key
pub last_ended : (done whole all : Changes) (at : ℕ) → length all ≤ at
    → done ++ last_changes (drop at all) ≡ whole → done ≡ whole
last_ended done whole all at ended so_far =
    sym (append-nil done) ∙ ap (λ (left : Changes). done ++ last_changes left) (sym (drop_all at all ended)) ∙ so_far

-- ---- writes

-- the last changes of each key do what the writes do
pub last_do : (writes : List Write) (all last : Changes)
    → IsStableByKey (λ (change : OneChange). change.0) key_cmp (changes_made writes) all
    → ((rows : Rows) → AreSorted rows → changed rows last ≡ changed rows all) → DoAs writes last
last_do writes all last stable same rows s =
    same rows s ∙ stable_changed (changes_made writes) all stable rows s ∙ made_do writes rows s
