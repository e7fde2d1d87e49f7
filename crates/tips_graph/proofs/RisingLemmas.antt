-- Keys that rise, told by a walk over them, are their own set; and the sets of two parts make the set of all.
use Rattle.std.proofs.Common.{◌≡◌, ℕ, ◌+◌, ◌<◌, ◌≤◌, refl, ap, sym, ◌∙◌, subst, arith, take, drop, get_or}
use Rattle.std.proofs.lemmas.List.{drop_all, drop_more, take-append-drop}
use Rattle.std.proofs.lemmas.Map.Keys.{sorted_head}
use Rattle.std.specs.Prelude.{true, List, [], ◌∷◌, ◌++◌, length}
use Rattle.std.specs.List.Sorted.{IsStrictlySortedBy}
use Rattle.std.specs.Ordering.{is_lt}
use Rattle.std.specs.declared.cmp.Ordering.{Ordering}
use Rattle.std.specs.declared.cmp.Ordering.TheVariants.{Less, Equal, Greater}
use Rattle.alto_rows.specs.declared.key.Key.{Key}
use Rattle.alto_rows.specs.Order.{key_cmp}
use Rattle.tips_graph.specs.Keys.{key_set}
use Rattle.tips_graph.proofs.KeySetLemmas.{key_set-append, key_set-key_set, none_sorted, past_lesser, sorted_more}

-- no keys are their own set
pub rising_none : (keys : List Key) → length keys ≡ 0 → key_set keys ≡ keys
rising_none [] none = refl
rising_none (key ∷ keys) none = absurd (omega (arith, none))

less_tests : (o : Ordering) → is_lt o ≡ true → o ≡ Less
less_tests Less h = refl
less_tests Equal h = cc
less_tests Greater h = cc

-- a walk over the keys behind the first begins with all
pub rising_begun : (keys : List Key) (first : Key) (rest : List Key) → keys ≡ first ∷ rest
    → IsStrictlySortedBy key_cmp (first ∷ drop 0 rest)
    → IsStrictlySortedBy key_cmp keys
rising_begun keys first [] whole sorted = rw whole sorted
rising_begun keys first (next ∷ rest) whole sorted = rw whole sorted

-- goes on where the next key is after the last
pub rising_step : (last key : Key) (rest : List Key) (i : ℕ) → i < length rest → key ≡ get_or rest i key
    → is_lt (key_cmp last key) ≡ true
    → IsStrictlySortedBy key_cmp (key ∷ drop (i + 1) rest) → IsStrictlySortedBy key_cmp (last ∷ drop i rest)
rising_step last key rest i within is before sorted =
    let more = drop (i + 1) rest in
    let step : drop i rest ≡ key ∷ more = drop_more rest i key within ∙ ap (λ (one : Key). one ∷ more) (sym is) in
    let less : key_cmp last key ≡ Less = less_tests (key_cmp last key) before in
    subst (λ (left : List Key). IsStrictlySortedBy key_cmp (last ∷ left)) (sym step)
    (sorted_more last (key ∷ more) (less, past_lesser last key less more (sorted_head key_cmp key more sorted)) sorted)

-- and ends behind the last
pub rising_ended : (last : Key) (rest : List Key) (i : ℕ) → length rest ≤ i
    → IsStrictlySortedBy key_cmp (last ∷ drop i rest)
rising_ended last rest i ended =
    subst (λ (left : List Key). IsStrictlySortedBy key_cmp (last ∷ left)) (sym (drop_all i rest ended))
    (sorted_more last [] tt none_sorted)

-- the set of two parts is the set of all
pub parts_set : (keys front back older newer : List Key) (i : ℕ) → front ≡ take i keys → back ≡ drop i keys
    → older ≡ key_set front → newer ≡ key_set back
    → key_set (older ++ newer) ≡ key_set keys
parts_set keys front back older newer i one two first second =
    let sets : older ++ newer ≡ key_set front ++ key_set back = rw (first, second) refl in
    let parts : front ++ back ≡ keys = rw (one, two) (take-append-drop i keys) in
    ap (λ (all : List Key). key_set all) sets ∙ key_set-append front back ∙ ap (λ (all : List Key). key_set all) parts

-- the set of a part is a set
pub part_set : (part set : List Key) → set ≡ key_set part → key_set set ≡ set
part_set part set is = rw is (key_set-key_set part)
