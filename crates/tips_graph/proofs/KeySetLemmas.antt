-- Sets of keys: they rise and have the keys of the list, and a list that rises is its own set.
use Rattle.std.proofs.Common.{◌≡◌, ℕ, ◌+◌, ◌<◌, length, take, get_or, refl, ap, sym, subst, ◌∙◌}
use Rattle.std.proofs.Math.Path.{fun_ext}
use Rattle.std.proofs.lemmas.Cmp.{eq_by_cmp_equiv}
use Rattle.std.proofs.lemmas.List.{take_more, append_assoc, append-nil}
use Rattle.std.proofs.lemmas.List.Sums.{fold-append}
use Rattle.std.proofs.lemmas.List.Folds.{list_any-append}
use Rattle.std.proofs.lemmas.Map.Keys.{sorted_head, sorted_tail}
use Rattle.std.proofs.lemmas.Map.Lookups.{btree_set_from_contains}
use Rattle.std.proofs.lemmas.Map.Views.{Contains-from_any, list_any-from_Contains}
use Rattle.std.specs.Prelude.{◌↔◌, Bool, true, false, ◌||◌, List, [], ◌∷◌, ◌++◌, Contains, fold}
use Rattle.std.specs.BTreeMap.{is_at}
use Rattle.std.specs.BTreeSet.{BTreeSet, insert_key}
use Rattle.std.specs.List.{AllByRecursion, flat_map, list_any}
use Rattle.std.specs.List.Sorted.{IsStrictlySortedBy}
use Rattle.std.specs.Ordering.{is_eq}
use Rattle.std.specs.declared.cmp.Ordering.{Ordering}
use Rattle.std.specs.declared.cmp.Ordering.TheVariants.{Less, Equal, Greater}
use Rattle.alto_rows.specs.contracts.key.KeyOrd.TheImpl as key_order
use Rattle.alto_rows.specs.declared.key.Key.{Key}
use Rattle.alto_rows.specs.Order.{key_cmp}
use Rattle.alto_rows.proofs.OrderLemmas.{derived_key_cmp, key_cmp_total, key_cmp_exact, one_key}
use Rattle.alto_rows.proofs.RowsLemmas.{greater_back, less_back}
use Rattle.tips_graph.specs.Keys.{key_set}

-- ---- one key more

-- the derived comparison inserts in the same place
pub insert_derived : (keys : List Key) (key : Key)
    → insert_key key_order.cmp-value.it keys key ≡ insert_key key_cmp keys key
insert_derived keys key = ap (λ (R : Key → Key → Ordering). insert_key R keys key)
    (fun_ext (λ a. fun_ext (λ b. derived_key_cmp a b)))

-- the set of one key more
pub key_set_more : (keys : List Key) (i : ℕ) (d : Key) → i < length keys
    → key_set (take (i + 1) keys) ≡ insert_key key_cmp (key_set (take i keys)) (get_or keys i d)
key_set_more keys i d within = ap key_set (take_more keys i d within)
    ∙ fold-append (insert_key key_cmp) [] (take i keys) (get_or keys i d ∷ [])

-- ---- a set rises

-- all keys of a list are after a key
abbrev pub ArePast : Key → List Key → Type 0
ArePast low keys = AllByRecursion (λ key. key_cmp low key ≡ Less) keys

-- what is after a key is after a lesser one
pub past_lesser : (low high : Key) → key_cmp low high ≡ Less → (keys : List Key) → ArePast high keys → ArePast low keys
past_lesser low high less [] past = past
past_lesser low high less (key ∷ keys) past =
    (key_cmp_total.trans low high key less past.0, past_lesser low high less keys past.1)

-- and stays after it when a later key is inserted
pub past_inserted : (low key : Key) (keys : List Key) → key_cmp low key ≡ Less → ArePast low keys
    → ArePast low (insert_key key_cmp keys key)
past_inserted low key [] less past = (less, tt)
past_inserted low key (first ∷ keys) less past = by (past_inserted low key keys less past.1) (key_cmp key first) refl
  where
    by : ArePast low (insert_key key_cmp keys key) → (o : Ordering) → key_cmp key first ≡ o
        → ArePast low (insert_key key_cmp (first ∷ keys) key)
    by below Less e = rw e (less, past)
    by below Equal e = rw e past
    by below Greater e = rw e (past.0, below)

-- keys with a first that they are after
pub sorted_more : (key : Key) (keys : List Key) → ArePast key keys → IsStrictlySortedBy key_cmp keys
    → IsStrictlySortedBy key_cmp (key ∷ keys)
unfolding IsStrictlySortedBy
sorted_more key keys past sorted = (past, sorted)

-- keys in order stay so when a key is inserted
sorted_inserted : (keys : List Key) (key : Key) → IsStrictlySortedBy key_cmp keys
    → IsStrictlySortedBy key_cmp (insert_key key_cmp keys key)
sorted_inserted [] key sorted = sorted_more key [] tt sorted
sorted_inserted (first ∷ keys) key sorted = by (sorted_inserted keys key (sorted_tail key_cmp first keys sorted))
    (key_cmp key first) refl
  where
    by : IsStrictlySortedBy key_cmp (insert_key key_cmp keys key) → (o : Ordering) → key_cmp key first ≡ o
        → IsStrictlySortedBy key_cmp (insert_key key_cmp (first ∷ keys) key)
    by below Less e = rw e (sorted_more key (first ∷ keys)
        (e, past_lesser key first e keys (sorted_head key_cmp first keys sorted)) sorted)
    by below Equal e = rw e sorted
    by below Greater e = rw e (sorted_more first (insert_key key_cmp keys key)
        (past_inserted first key keys (greater_back key first e) (sorted_head key_cmp first keys sorted)) below)

-- and when any number of keys are inserted
sorted_fold : (set keys : List Key) → IsStrictlySortedBy key_cmp set
    → IsStrictlySortedBy key_cmp (fold (insert_key key_cmp) set keys)
sorted_fold set [] sorted = sorted
sorted_fold set (key ∷ keys) sorted = sorted_fold (insert_key key_cmp set key) keys (sorted_inserted set key sorted)

-- no keys are in order
pub none_sorted : IsStrictlySortedBy key_cmp []
unfolding IsStrictlySortedBy
none_sorted = tt

-- the keys of a set rise, so none stands twice
pub key_set_sorted : (keys : List Key) → IsStrictlySortedBy key_cmp (key_set keys)
key_set_sorted keys = sorted_fold [] keys none_sorted

-- ---- keys that rise are their own set

-- all keys of a list are before a key
abbrev AreBefore : Key → List Key → Type 0
AreBefore high keys = AllByRecursion (λ key. key_cmp key high ≡ Less) keys

-- a key after all others goes to the end
insert_last : (keys : List Key) (key : Key) → AreBefore key keys → insert_key key_cmp keys key ≡ keys ++ key ∷ []
insert_last [] key before = refl
insert_last (first ∷ keys) key before =
    rw (less_back first key before.0) (ap (λ more. first ∷ more) (insert_last keys key before.1))

-- what is after a key has each of its members after it
past_middle : (low : Key) (front : List Key) (key : Key) (back : List Key) → ArePast low (front ++ key ∷ back)
    → key_cmp low key ≡ Less
past_middle low [] key back past = past.0
past_middle low (first ∷ front) key back past = past_middle low front key back past.1

-- of keys in order, those in front of one are before it
before_middle : (front : List Key) (key : Key) (back : List Key) → IsStrictlySortedBy key_cmp (front ++ key ∷ back)
    → AreBefore key front
before_middle [] key back sorted = tt
before_middle (first ∷ front) key back sorted = (
  past_middle first front key back (sorted_head key_cmp first (front ++ key ∷ back) sorted),
  before_middle front key back (sorted_tail key_cmp first (front ++ key ∷ back) sorted),
)

-- keys in order that are inserted after others go to their end
fold_sorted : (front back : List Key) → IsStrictlySortedBy key_cmp (front ++ back)
    → fold (insert_key key_cmp) front back ≡ front ++ back
fold_sorted front [] sorted = sym (append-nil front)
fold_sorted front (key ∷ back) sorted =
    let whole : (front ++ key ∷ []) ++ back ≡ front ++ key ∷ back = append_assoc front (key ∷ []) back in
    let more : fold (insert_key key_cmp) (front ++ key ∷ []) back ≡ (front ++ key ∷ []) ++ back =
    fold_sorted (front ++ key ∷ []) back (subst (λ (keys : List Key). IsStrictlySortedBy key_cmp keys)
    (sym whole) sorted) in
    ap (λ set. fold (insert_key key_cmp) set back) (insert_last front key (before_middle front key back sorted)) ∙ more
    ∙ whole

-- keys that rise are their own set
pub key_set-sorted : (keys : List Key) → IsStrictlySortedBy key_cmp keys → key_set keys ≡ keys
key_set-sorted keys sorted = fold_sorted [] keys sorted

-- the set of a set is the set
pub key_set-key_set : (keys : List Key) → key_set (key_set keys) ≡ key_set keys
key_set-key_set keys = key_set-sorted (key_set keys) (key_set_sorted keys)

-- ---- a set has the keys of the list

-- whether a key is in a list
abbrev has : List Key → Key → Bool
has keys key = list_any (is_at (key_cmp key)) keys

-- tests that are joined, in another order
or_twice : (b c : Bool) → (b || c) ≡ (b || (b || c))
or_twice true c = refl
or_twice false c = refl

or_swapped : (a b c : Bool) → (a || (b || c)) ≡ (b || (a || c))
or_swapped true true c = refl
or_swapped true false c = refl
or_swapped false true c = refl
or_swapped false false c = refl

or_moved : (a b c : Bool) → ((a || b) || c) ≡ (b || (a || c))
or_moved true true c = refl
or_moved true false c = refl
or_moved false true c = refl
or_moved false false c = refl

-- an inserted key, and those that there were
has-insert_key : (keys : List Key) (added key : Key)
    → has (insert_key key_cmp keys added) key ≡ (is_eq (key_cmp key added) || has keys key)
has-insert_key [] added key = refl
has-insert_key (first ∷ keys) added key = by (has-insert_key keys added key) (key_cmp added first) refl
  where
    by : has (insert_key key_cmp keys added) key ≡ (is_eq (key_cmp key added) || has keys key) → (o : Ordering)
        → key_cmp added first ≡ o
        → has (insert_key key_cmp (first ∷ keys) added) key ≡ (is_eq (key_cmp key added) || has (first ∷ keys) key)
    by below Less e = rw e refl
    by below Equal e =
        let same : added ≡ first = key_cmp_exact added first e in
        rw (e, same) (or_twice (is_eq (key_cmp key first)) (has keys key))
    by below Greater e = rw (e, below)
        (or_swapped (is_eq (key_cmp key first)) (is_eq (key_cmp key added)) (has keys key))

-- inserted keys, and those that there were
has-fold : (set keys : List Key) (key : Key)
    → has (fold (insert_key key_cmp) set keys) key ≡ (has set key || has keys key)
has-fold set [] key = or_none (has set key)
  where
    or_none : (b : Bool) → b ≡ (b || false)
    or_none true = refl
    or_none false = refl
has-fold set (added ∷ keys) key =
    has-fold (insert_key key_cmp set added) keys key
    ∙ ap (λ b. b || has keys key) (has-insert_key set added key)
    ∙ or_moved (is_eq (key_cmp key added)) (has set key) (has keys key)

-- a set has just the keys of the list
pub key_set_has : (keys : List Key) (key : Key)
    → list_any (is_at (key_cmp key)) (key_set keys) ≡ list_any (is_at (key_cmp key)) keys
key_set_has keys key = has-fold [] keys key

-- the same as members
pub key_set_members : (keys : List Key) (key : Key) → Contains (key_set keys) key ↔ Contains keys key
key_set_members keys key = (
  λ member. Contains-from_any one_key key keys (sym (key_set_has keys key)
      ∙ list_any-from_Contains (eq_by_cmp_equiv key_cmp_total) key (key_set keys) member),
  λ member. Contains-from_any one_key key (key_set keys) (key_set_has keys key
      ∙ list_any-from_Contains (eq_by_cmp_equiv key_cmp_total) key keys member),
)

-- ---- lists with the same keys

-- lists with the same keys have one set
pub key_set-same : (keys others : List Key)
    → ((key : Key) → list_any (is_at (key_cmp key)) keys ≡ list_any (is_at (key_cmp key)) others)
    → key_set keys ≡ key_set others
key_set-same keys others same =
    let set : BTreeSet Key = record { keys = key_set keys } in
    let other : BTreeSet Key = record { keys = key_set others } in
    btree_set_from_contains key_cmp_total set other (key_set_sorted keys) (key_set_sorted others)
    (λ key. key_set_has keys key ∙ same key ∙ sym (key_set_has others key)) key_cmp_exact

-- the sets of the parts of a list have its keys
pub key_set-append : (front back : List Key) → key_set (key_set front ++ key_set back) ≡ key_set (front ++ back)
key_set-append front back =
    key_set-same (key_set front ++ key_set back) (front ++ back)
    (λ key. rw (
      list_any-append (is_at (key_cmp key)) (key_set front) (key_set back),
      list_any-append (is_at (key_cmp key)) front back,
      key_set_has front key,
      key_set_has back key,
    ) refl)

-- so have the sets of any number of lists
pub key_set-flat_map : {X : Type 0} (keys : X → List Key) (items : List X)
    → key_set (flat_map (λ item. key_set (keys item)) items) ≡ key_set (flat_map keys items)
key_set-flat_map {X} keys items = key_set-same (flat_map (λ item. key_set (keys item)) items) (flat_map keys items)
    (λ key. each items key)
  where
    each : (items : List X) (key : Key) → list_any (is_at (key_cmp key)) (flat_map (λ item. key_set (keys item)) items)
        ≡ list_any (is_at (key_cmp key)) (flat_map keys items)
    each [] key = refl
    each (item ∷ items) key =
        rw (
          list_any-append (is_at (key_cmp key)) (key_set (keys item)) (flat_map (λ item. key_set (keys item)) items),
          list_any-append (is_at (key_cmp key)) (keys item) (flat_map keys items),
          key_set_has (keys item) key,
          each items key,
        ) refl
