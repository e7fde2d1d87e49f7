-- Of two sets of keys in order, which key comes first in the set of both.
use Rattle.std.proofs.Common.{◌≡◌, ℕ, zero, suc, ◌⊎◌, inl, inr, ◌+◌, ◌<◌, ◌≤◌, length, drop, get_or, refl, ap, sym}
use Rattle.std.proofs.Common.{subst, ◌∙◌, append-nil, append_assoc}
use Rattle.std.proofs.lemmas.List.{drop_more, drop_all}
use Rattle.std.proofs.lemmas.Map.Keys.{sorted_head, sorted_tail}
use Rattle.std.proofs.lemmas.List.Folds.{list_any-append}
use Rattle.std.specs.Prelude.{Bool, true, false, ◌||◌, List, [], ◌∷◌, ◌++◌, fold}
use Rattle.std.specs.BTreeMap.{is_at}
use Rattle.std.specs.BTreeSet.{insert_key}
use Rattle.std.specs.List.{list_any}
use Rattle.std.specs.List.Sorted.{IsStrictlySortedBy}
use Rattle.std.specs.Ordering.{is_eq}
use Rattle.std.specs.declared.cmp.Ordering.TheVariants.{Less, Equal, Greater}
use Rattle.alto_rows.specs.declared.key.Key.{Key}
use Rattle.alto_rows.specs.Order.{key_cmp}
use Rattle.alto_rows.proofs.OrderLemmas.{key_cmp_exact}
use Rattle.alto_rows.proofs.RowsLemmas.{greater_back}
use Rattle.tips_graph.specs.Keys.{key_set}
use Rattle.tips_graph.proofs.KeySetLemmas.{none_sorted, ArePast, past_lesser, past_inserted, sorted_more}
use Rattle.tips_graph.proofs.KeySetLemmas.{key_set_sorted, key_set-sorted, key_set-same, key_set_has}

-- what is after a key stays so when later keys are inserted
past_fold : (low : Key) (set keys : List Key) → ArePast low set → ArePast low keys
    → ArePast low (fold (insert_key key_cmp) set keys)
past_fold low set [] some past = some
past_fold low set (key ∷ keys) some past =
    past_fold low (insert_key key_cmp set key) keys (past_inserted low key set past.0 some) past.1

-- a key before all others comes first
least_first : (key : Key) (keys : List Key) → ArePast key keys → key_set (key ∷ keys) ≡ key ∷ key_set keys
least_first key keys past =
    key_set-same (key ∷ keys) (key ∷ key_set keys) (λ (other : Key). ap (λ b. is_eq (key_cmp other key) || b)
    (sym (key_set_has keys other)))
    ∙ key_set-sorted (key ∷ key_set keys) (sorted_more key (key_set keys) (past_fold key [] keys tt past)
    (key_set_sorted keys))

-- two lists of keys after a key
past_both : (low : Key) (front back : List Key) → ArePast low front → ArePast low back → ArePast low (front ++ back)
past_both low [] back some past = past
past_both low (key ∷ front) back some past = (some.0, past_both low front back some.1 past)

-- what a key is less than comes after it
past_next : (low key : Key) (keys : List Key) → key_cmp low key ≡ Less → IsStrictlySortedBy key_cmp (key ∷ keys)
    → ArePast low (key ∷ keys)
past_next low key keys less sorted = (less, past_lesser low key less keys (sorted_head key_cmp key keys sorted))

-- the lesser of two first keys comes first
pub older_first : (x y : Key) (xs ys : List Key) → IsStrictlySortedBy key_cmp (x ∷ xs)
    → IsStrictlySortedBy key_cmp (y ∷ ys) → key_cmp x y ≡ Less
    → key_set ((x ∷ xs) ++ (y ∷ ys)) ≡ x ∷ key_set (xs ++ (y ∷ ys))
older_first x y xs ys one two less =
    least_first x (xs ++ (y ∷ ys)) (past_both x xs (y ∷ ys) (sorted_head key_cmp x xs one) (past_next x y ys less two))

-- a test that stands twice may be left out
or_again : (a b c : Bool) → (a || (b || (a || c))) ≡ (a || (b || c))
or_again true b c = refl
or_again false b c = refl

-- a test in the middle may come first
or_forward : (a b c d : Bool) → (a || (b || (c || d))) ≡ (c || (a || (b || d)))
or_forward true true true d = refl
or_forward true true false d = refl
or_forward true false true d = refl
or_forward true false false d = refl
or_forward false true true d = refl
or_forward false true false d = refl
or_forward false false true d = refl
or_forward false false false d = refl

-- a key that both begin with comes first, once
pub both_first : (x y : Key) (xs ys : List Key) → IsStrictlySortedBy key_cmp (x ∷ xs)
    → IsStrictlySortedBy key_cmp (y ∷ ys) → key_cmp x y ≡ Equal
    → key_set ((x ∷ xs) ++ (y ∷ ys)) ≡ x ∷ key_set (xs ++ ys)
both_first x y xs ys one two equal =
    let same : x ≡ y = key_cmp_exact x y equal in
    let two' : IsStrictlySortedBy key_cmp (x ∷ ys) =
    subst (λ (key : Key). IsStrictlySortedBy key_cmp (key ∷ ys)) (sym same) two in
    let once : key_set ((x ∷ xs) ++ (x ∷ ys)) ≡ key_set (x ∷ (xs ++ ys)) =
    key_set-same ((x ∷ xs) ++ (x ∷ ys)) (x ∷ (xs ++ ys))
    (λ (key : Key). rw (list_any-append (is_at (key_cmp key)) xs (x ∷ ys), list_any-append (is_at (key_cmp key)) xs ys)
    (or_again (is_eq (key_cmp key x)) (list_any (is_at (key_cmp key)) xs) (list_any (is_at (key_cmp key)) ys))) in
    ap (λ (key : Key). key_set ((x ∷ xs) ++ (key ∷ ys))) (sym same) ∙ once
    ∙ least_first x (xs ++ ys) (past_both x xs ys (sorted_head key_cmp x xs one) (sorted_head key_cmp x ys two'))

-- the greater of two first keys lets the other come first
pub newer_first : (x y : Key) (xs ys : List Key) → IsStrictlySortedBy key_cmp (x ∷ xs)
    → IsStrictlySortedBy key_cmp (y ∷ ys) → key_cmp x y ≡ Greater
    → key_set ((x ∷ xs) ++ (y ∷ ys)) ≡ y ∷ key_set ((x ∷ xs) ++ ys)
newer_first x y xs ys one two greater =
    let front : key_set ((x ∷ xs) ++ (y ∷ ys)) ≡ key_set (y ∷ ((x ∷ xs) ++ ys)) =
    key_set-same ((x ∷ xs) ++ (y ∷ ys)) (y ∷ ((x ∷ xs) ++ ys))
    (λ (key : Key). rw (list_any-append (is_at (key_cmp key)) xs (y ∷ ys), list_any-append (is_at (key_cmp key)) xs ys)
    (or_forward (is_eq (key_cmp key x)) (list_any (is_at (key_cmp key)) xs) (is_eq (key_cmp key y))
    (list_any (is_at (key_cmp key)) ys))) in
    front ∙ least_first y ((x ∷ xs) ++ ys) (past_both y (x ∷ xs) ys (past_next y x xs (greater_back x y greater) one)
    (sorted_head key_cmp y ys two))

-- ---- one key more of two sets that are merged

-- what is left of keys in order is in order
sorted_left : (n : ℕ) (keys : List Key) → IsStrictlySortedBy key_cmp keys → IsStrictlySortedBy key_cmp (drop n keys)
sorted_left zero keys sorted = sorted
sorted_left (suc n) [] sorted = none_sorted
sorted_left (suc n) (key ∷ keys) sorted = sorted_left n keys (sorted_tail key_cmp key keys sorted)

-- what is left of a list begins with the key at its place
left_first : (n : ℕ) (keys : List Key) (key : Key) → n < length keys → key ≡ get_or keys n key
    → drop n keys ≡ key ∷ drop (n + 1) keys
left_first n keys key within is = drop_more keys n key within ∙ ap (λ (first : Key). first ∷ drop (n + 1) keys) (sym is)

-- what is left of a set, in order
left_sorted : (n : ℕ) (keys : List Key) (key : Key) → n < length keys → key ≡ get_or keys n key → key_set keys ≡ keys
    → IsStrictlySortedBy key_cmp (key ∷ drop (n + 1) keys)
left_sorted n keys key within is set =
    let sorted : IsStrictlySortedBy key_cmp keys =
    subst (λ (these : List Key). IsStrictlySortedBy key_cmp these) set (key_set_sorted keys) in
    subst (λ (these : List Key). IsStrictlySortedBy key_cmp these) (left_first n keys key within is)
    (sorted_left n keys sorted)

-- two sets are merged as far as some keys of each
abbrev pub IsMergedTo : List Key → List Key → List Key → ℕ → ℕ → Type 0
IsMergedTo older newer keys i j = key_set older ≡ older → key_set newer ≡ newer
    → key_set (older ++ newer) ≡ keys ++ key_set (drop i older ++ drop j newer)

-- the first keys that are left of both
pub record AreNext (older newer : List Key) (i j : ℕ) (x y : Key) : Type 0 where
  pub older_within : i < length older
  pub newer_within : j < length newer
  pub older_is : x ≡ get_or older i x
  pub newer_is : y ≡ get_or newer j y

-- both lists by their first keys
opened : (older newer keys : List Key) (i j : ℕ) (x y : Key) → AreNext older newer i j x y
    → keys ++ key_set (drop i older ++ drop j newer)
    ≡ keys ++ key_set ((x ∷ drop (i + 1) older) ++ (y ∷ drop (j + 1) newer))
opened older newer keys i j x y next =
    ap (λ (left : List Key). keys ++ key_set (left ++ drop j newer))
    (left_first i older x next.older_within next.older_is)
    ∙ ap (λ (left : List Key). keys ++ key_set ((x ∷ drop (i + 1) older) ++ left))
    (left_first j newer y next.newer_within next.newer_is)

-- the lesser of the older set is next
pub merged_older : (older newer keys : List Key) (i j : ℕ) (x y : Key) → AreNext older newer i j x y
    → key_cmp x y ≡ Less
    → IsMergedTo older newer keys i j → IsMergedTo older newer (keys ++ x ∷ []) (i + 1) j
merged_older older newer keys i j x y next less is = λ one two.
    is one two ∙ opened older newer keys i j x y next
    ∙ ap (λ (left : List Key). keys ++ left) (older_first x y (drop (i + 1) older) (drop (j + 1) newer)
    (left_sorted i older x next.older_within next.older_is one)
    (left_sorted j newer y next.newer_within next.newer_is two) less)
    ∙ ap (λ (left : List Key). keys ++ (x ∷ key_set (drop (i + 1) older ++ left)))
    (sym (left_first j newer y next.newer_within next.newer_is))
    ∙ sym (append_assoc keys (x ∷ []) (key_set (drop (i + 1) older ++ drop j newer)))

-- a key of both sets is next
pub merged_both : (older newer keys : List Key) (i j : ℕ) (x y : Key) → AreNext older newer i j x y
    → key_cmp x y ≡ Equal
    → IsMergedTo older newer keys i j → IsMergedTo older newer (keys ++ x ∷ []) (i + 1) (j + 1)
merged_both older newer keys i j x y next equal is = λ one two.
    is one two ∙ opened older newer keys i j x y next
    ∙ ap (λ (left : List Key). keys ++ left) (both_first x y (drop (i + 1) older) (drop (j + 1) newer)
    (left_sorted i older x next.older_within next.older_is one)
    (left_sorted j newer y next.newer_within next.newer_is two) equal)
    ∙ sym (append_assoc keys (x ∷ []) (key_set (drop (i + 1) older ++ drop (j + 1) newer)))

-- the lesser of the newer set is next
pub merged_newer : (older newer keys : List Key) (i j : ℕ) (x y : Key) → AreNext older newer i j x y
    → key_cmp x y ≡ Greater
    → IsMergedTo older newer keys i j → IsMergedTo older newer (keys ++ y ∷ []) i (j + 1)
merged_newer older newer keys i j x y next greater is = λ one two.
    is one two ∙ opened older newer keys i j x y next
    ∙ ap (λ (left : List Key). keys ++ left) (newer_first x y (drop (i + 1) older) (drop (j + 1) newer)
    (left_sorted i older x next.older_within next.older_is one)
    (left_sorted j newer y next.newer_within next.newer_is two) greater)
    ∙ ap (λ (left : List Key). keys ++ (y ∷ key_set (left ++ drop (j + 1) newer)))
    (sym (left_first i older x next.older_within next.older_is))
    ∙ sym (append_assoc keys (y ∷ []) (key_set (drop i older ++ drop (j + 1) newer)))

-- what is left of a set is one
left_set : (n : ℕ) (keys : List Key) → key_set keys ≡ keys → key_set (drop n keys) ≡ drop n keys
left_set n keys set = key_set-sorted (drop n keys)
    (sorted_left n keys (subst (λ (these : List Key). IsStrictlySortedBy key_cmp these) set (key_set_sorted keys)))

-- where one set is merged whole, what is left of the other follows
pub merged_end : (older newer keys : List Key) (i j : ℕ) → (length older ≤ i) ⊎ (length newer ≤ j)
    → IsMergedTo older newer keys i j
    → key_set older ≡ older → key_set newer ≡ newer → (keys ++ drop i older) ++ drop j newer ≡ key_set (older ++ newer)
merged_end older newer keys i j (inl none) is one two =
    let left : drop i older ≡ [] = drop_all i older none in
    sym (is one two
    ∙ ap (λ (front : List Key). keys ++ key_set (front ++ drop j newer)) left
    ∙ ap (λ (back : List Key). keys ++ back) (left_set j newer two)
    ∙ ap (λ (front : List Key). keys ++ (front ++ drop j newer)) (sym left)
    ∙ sym (append_assoc keys (drop i older) (drop j newer)))
merged_end older newer keys i j (inr none) is one two =
    let left : drop j newer ≡ [] = drop_all j newer none in
    sym (is one two
    ∙ ap (λ (back : List Key). keys ++ key_set (drop i older ++ back)) left
    ∙ ap (λ (back : List Key). keys ++ key_set back) (append-nil (drop i older))
    ∙ ap (λ (back : List Key). keys ++ back) (left_set i older one ∙ sym (append-nil (drop i older)))
    ∙ ap (λ (back : List Key). keys ++ (drop i older ++ back)) (sym left)
    ∙ sym (append_assoc keys (drop i older) (drop j newer)))
