-- Writes whose keys rise are changes as they stand, and a key that isn't after the first row goes there.
use Rattle.std.proofs.Common.{◌≡◌, ℕ, ◌+◌, ◌<◌, ◌≤◌, refl, ap, sym, ◌∙◌, subst, arith, drop, get_or}
use Rattle.std.proofs.lemmas.List.{drop_all, drop_more}
use Rattle.std.specs.Prelude.{true, List, [], ◌∷◌, Some, Ok, Err, length, slice_get}
use Rattle.std.specs.List.{AllByRecursion}
use Rattle.std.specs.List.Sorted.{IsStrictlySortedBy}
use Rattle.std.specs.Map.{keys_of}
use Rattle.std.specs.Ordering.{is_lt}
use Rattle.std.specs.declared.cmp.Ordering.{Ordering}
use Rattle.std.specs.declared.cmp.Ordering.TheVariants.{Less, Equal, Greater}
use Rattle.alto_rows.specs.declared.key.Key.{Key}
use Rattle.alto_rows.specs.declared.value.Value.{Value}
use Rattle.alto_rows.specs.declared.write.Write.{Write}
use Rattle.alto_rows.specs.Changes.{Changes, AreOrdered, DoAs, changed}
use Rattle.alto_rows.specs.Order.{key_cmp}
use Rattle.alto_rows.specs.Place.{place_of}
use Rattle.alto_rows.specs.Rows.{Rows, AreSorted, after, with_value}
use Rattle.alto_rows.proofs.OrderLemmas.{key_cmp_exact, key_cmp_total}
use Rattle.alto_rows.proofs.PlaceLemmas.{place_of-found, place_of-missing}
use Rattle.alto_rows.proofs.RowsLemmas.{past_first, past_lesser}
use Rattle.row_chunks.specs.Made.{changes_made}

-- ---- writes as changes

made_one_by_one : (rows : Rows) (writes : List Write) → changed rows (changes_made writes) ≡ after rows writes
made_one_by_one rows [] = refl
made_one_by_one rows (write ∷ writes) = made_one_by_one (with_value rows write.key write.value) writes

-- the changes that writes make do what the writes do
pub made_do : (writes : List Write) → DoAs writes (changes_made writes)
made_do writes rows s = made_one_by_one rows writes

-- what is after a key is after a lesser one
after_lesser : (low high : Key) → key_cmp low high ≡ Less → (changes : Changes)
    → AllByRecursion (λ key. key_cmp high key ≡ Less) (keys_of changes)
    → AllByRecursion (λ key. key_cmp low key ≡ Less) (keys_of changes)
after_lesser low high less [] h = tt
after_lesser low high less (change ∷ changes) h =
    (key_cmp_total.trans low high change.0 less h.0, after_lesser low high less changes h.1)

-- no changes are in order
pub rising_none : (writes : List Write) → length writes ≡ 0 → AreOrdered (changes_made writes)
unfolding IsStrictlySortedBy
rising_none [] none = tt
rising_none (write ∷ writes) none = absurd (omega (arith, none))

-- and one is
rising_one : (write : Write) → AreOrdered (changes_made (write ∷ []))
unfolding IsStrictlySortedBy
rising_one write = (tt, tt)

-- changes in order stay so behind one of a lesser key
rising_more : (last write : Write) (more : List Write) → key_cmp last.key write.key ≡ Less
    → AreOrdered (changes_made (write ∷ more))
    → AreOrdered (changes_made (last ∷ write ∷ more))
unfolding IsStrictlySortedBy
rising_more last write more less o = ((less, after_lesser last.key write.key less (changes_made more) o.0), o)

-- what tests as less is
pub less_tests : (o : Ordering) → is_lt o ≡ true → o ≡ Less
less_tests Less h = refl
less_tests Equal h = cc
less_tests Greater h = cc

-- a loop over the writes behind the first begins with all
pub rising_begun : (writes : List Write) (first : Write) (rest : List Write) → writes ≡ first ∷ rest
    → AreOrdered (changes_made (first ∷ drop 0 rest))
    → AreOrdered (changes_made writes)
rising_begun writes first [] whole o = rw whole o
rising_begun writes first (next ∷ rest) whole o = rw whole o

-- goes on where the next write is behind the last
pub rising_step : (last write : Write) (rest : List Write) (i : ℕ) → i < length rest → write ≡ get_or rest i write
    → is_lt (key_cmp last.key write.key) ≡ true → AreOrdered (changes_made (write ∷ drop (i + 1) rest))
    → AreOrdered (changes_made (last ∷ drop i rest))
rising_step last write rest i within is less o =
    let step : drop i rest ≡ write ∷ drop (i + 1) rest =
    drop_more rest i write within ∙ ap (λ (one : Write). one ∷ drop (i + 1) rest) (sym is) in
    subst (λ (more : List Write). AreOrdered (changes_made (last ∷ more))) (sym step)
    (rising_more last write (drop (i + 1) rest) (less_tests (key_cmp last.key write.key) less) o)

-- and ends behind the last
pub rising_ended : (last : Write) (rest : List Write) (i : ℕ) → length rest ≤ i
    → AreOrdered (changes_made (last ∷ drop i rest))
rising_ended last rest i ended =
    subst (λ (more : List Write). AreOrdered (changes_made (last ∷ more))) (sym (drop_all i rest ended))
    (rising_one last)

-- ---- the first place

-- a key before the first row has its place there
pub place_before_first : (rows : Rows) (key : Key) (first : Key × Value) → AreSorted rows
    → slice_get rows 0 ≡ Some first → key_cmp key first.0 ≡ Less
    → place_of rows key ≡ Err 0
place_before_first [] key first s is e = cc
place_before_first (row ∷ rows) key first s is e =
    let same : row ≡ first = cc in
    let less : key_cmp key row.0 ≡ Less = rw same e in
    place_of-missing (row ∷ rows) key 0
    (record {
      front = [];
      back = row ∷ rows;
      whole = refl;
      place = refl;
      before = tt;
      past = (less, past_lesser key row.0 less rows (past_first row rows s));
    })

-- and so has the first row's
pub place_at_first : (rows : Rows) (key : Key) (first : Key × Value) → AreSorted rows → slice_get rows 0 ≡ Some first
    → key_cmp key first.0 ≡ Equal
    → place_of rows key ≡ Ok 0
place_at_first [] key first s is e = cc
place_at_first (row ∷ rows) key first s is e =
    let same : row ≡ first = cc in
    let equal : key_cmp key row.0 ≡ Equal = rw same e in
    let one : key ≡ row.0 = key_cmp_exact key row.0 equal in
    place_of-found (row ∷ rows) key 0
    s (record { front = []; value = row.1; back = rows; whole = rw one refl; place = refl })
