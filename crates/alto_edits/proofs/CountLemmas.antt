-- How many rows pass a test of their keys, before and after writes.
use Rattle.std.proofs.Common.{◌≡◌, refl, ap, sym, ◌∙◌, arith}
use Rattle.std.proofs.lemmas.Bool.{both_ways}
use Rattle.std.specs.Prelude.{Bool, true, false, cond, not, ◌&&◌, ℕ, ◌+◌, ◌≤◌, List, [], ◌∷◌, length, filter, Option}
use Rattle.std.specs.Prelude.{Some, None, is_some}
use Rattle.std.specs.Ordering.{is_eq}
use Rattle.std.specs.declared.cmp.Ordering.{Ordering}
use Rattle.std.specs.declared.cmp.Ordering.TheVariants.{Less, Equal, Greater}
use Rattle.alto_rows.specs.declared.key.Key.{Key}
use Rattle.alto_rows.specs.declared.value.Value.{Value}
use Rattle.alto_rows.specs.Order.{key_cmp}
use Rattle.alto_rows.specs.Rows.{Rows, AreSorted, value_of, has_row, with_value}
use Rattle.alto_rows.proofs.OrderLemmas.{one_key, key_cmp_exact, key_cmp_itself}
use Rattle.alto_rows.proofs.RowsLemmas.{past_first, sorted_rest, past_lesser, value_of-past, value_of-first}
use Rattle.alto_rows.proofs.RowsLemmas.{value_of-other}
use Rattle.alto_rows.proofs.WriteLemmas.{sorted_with_value, value_of-delete}

-- how many rows have a key that passes
abbrev pub count : (Key → Bool) → Rows → ℕ
count of rows = length (filter (λ row. of row.0) rows)

-- 1 for what holds
abbrev pub one : Bool → ℕ
one true = 1
one false = 0

-- a row more in front
pub counted : (b : Bool) (row : Key × Value) (rest : Rows) → length (cond b (row ∷ rest) rest) ≡ length rest + one b
counted true row rest = omega arith
counted false row rest = omega arith

-- a put adds a row where its key had none
pub count_put : (of : Key → Bool) (rows : Rows) (key : Key) (value : Value) → AreSorted rows
    → count of (with_value rows key (Some value)) ≡ count of rows + one (of key && not (has_row rows key))
count_put of [] key value s = by (of key)
  where
    first : Rows
    first = (key, value) ∷ []

    by : (b : Bool) → length (cond b first []) ≡ 0 + one (b && true)
    by true = refl
    by false = refl
count_put of (row ∷ rows) key value s =
    by (count_put of rows key value (sorted_rest row rows s)) (key_cmp key row.0) refl
  where
    with_row : Rows → Key → Rows
    with_row rest at = (at, value) ∷ rest

    front : (b : Bool) (rest : Rows) → length (cond b (with_row rest key) rest) ≡ length rest + one (b && true)
    front true rest = omega arith
    front false rest = omega arith

    same : (b c : Bool) (rest : Rows)
        → length (cond b (with_row rest row.0) rest) ≡ length (cond b (row ∷ rest) rest) + one (c && false)
    same true true rest = omega arith
    same true false rest = omega arith
    same false true rest = omega arith
    same false false rest = omega arith

    more : (b : Bool) (new old : Rows) (n : ℕ) → length new ≡ length old + n
        → length (cond b (row ∷ new) new) ≡ length (cond b (row ∷ old) old) + n
    more true new old n h = omega (arith, h)
    more false new old n h = h

    by : count of (with_value rows key (Some value)) ≡ count of rows + one (of key && not (has_row rows key))
        → (o : Ordering) → key_cmp key row.0 ≡ o
        → count of (with_value (row ∷ rows) key (Some value))
        ≡ count of (row ∷ rows) + one (of key && not (has_row (row ∷ rows) key))
    by below Less e =
        rw (e, value_of-past key rows (past_lesser key row.0 e rows (past_first row rows s)))
        (front (of key) (filter (λ row. of row.0) (row ∷ rows)))
    by below Equal e = rw e (same (of row.0) (of key) (filter (λ row. of row.0) rows))
    by below Greater e =
        rw e
        (more (of row.0) (filter (λ row. of row.0) (with_value rows key (Some value))) (filter (λ row. of row.0) rows)
        (one (of key && not (has_row rows key))) below)

-- a deletion takes the row of its key
pub count_delete : (of : Key → Bool) (rows : Rows) (key : Key) → has_row rows key ≡ true
    → count of (with_value rows key None) + one (of key) ≡ count of rows
count_delete of [] key h = cc
count_delete of (row ∷ rows) key h = by (λ g. count_delete of rows key g) (is_eq (key_cmp key row.0)) refl
  where
    more : (b : Bool) (new old : Rows) (n : ℕ) → length new + n ≡ length old
        → length (cond b (row ∷ new) new) + n ≡ length (cond b (row ∷ old) old)
    more true new old n h = omega (arith, h)
    more false new old n h = h

    by : (has_row rows key ≡ true → count of (with_value rows key None) + one (of key) ≡ count of rows)
        → (b : Bool) → is_eq (key_cmp key row.0) ≡ b
        → count of (with_value (row ∷ rows) key None) + one (of key) ≡ count of (row ∷ rows)
    by below true e =
        let here : key ≡ row.0 = one_key key row.0 e in
        rw (e, here) (sym (counted (of row.0) row (filter (λ row. of row.0) rows)))
    by below false e =
        let there : has_row rows key ≡ true = ap is_some (sym (value_of-other key row rows e)) ∙ h in
        rw e
        (more (of row.0) (filter (λ row. of row.0) (with_value rows key None)) (filter (λ row. of row.0) rows)
        (one (of key)) (below there))

-- each key of the rows has a row among others
abbrev pub AreAmong : Rows → Rows → Type 0
AreAmong rest rows = (at : Key) → has_row rest at ≡ true → has_row rows at ≡ true

-- no more rows pass of some than of all
pub count_among : (of : Key → Bool) (rest rows : Rows) → AreSorted rest → AreSorted rows → AreAmong rest rows
    → count of rest ≤ count of rows
count_among of [] rows s t among = omega arith
count_among of (row ∷ rest) rows s t among =
    let less : count of rest ≤ count of (with_value rows row.0 None) =
    count_among of rest (with_value rows row.0 None) (sorted_rest row rest s)
    (sorted_with_value rows row.0 None t) behind in
    let there : has_row rows row.0 ≡ true =
    among row.0 (ap is_some (value_of-first row.0 row rest (key_cmp_itself row.0))) in
    let first : length (cond (of row.0) (row ∷ filter (λ row. of row.0) rest) (filter (λ row. of row.0) rest))
    ≡ count of rest + one (of row.0) =
    counted (of row.0) row (filter (λ row. of row.0) rest) in
    let gone : count of (with_value rows row.0 None) + one (of row.0) ≡ count of rows =
    count_delete of rows row.0 there in
    omega (arith, less, first, gone)
  where
    behind : AreAmong rest (with_value rows row.0 None)
    behind at h = by (is_eq (key_cmp at row.0)) refl
      where
        by : (b : Bool) → is_eq (key_cmp at row.0) ≡ b → has_row (with_value rows row.0 None) at ≡ true
        by true e =
            let none : value_of rest at ≡ None =
            rw (one_key at row.0 e) (value_of-past row.0 rest (past_first row rest s)) in
            absurd (both_ways (has_row rest at) (ap is_some none) h)
        by false e =
            let was : has_row rows at ≡ true = among at (ap is_some (value_of-other at row rest e) ∙ h) in
            ap is_some (value_of-delete rows row.0 at t ∙ ap (λ b. cond b None (value_of rows at)) e) ∙ was

-- fewer pass where a row that passes isn't among them
pub count_fewer : (of : Key → Bool) (rest rows : Rows) (gone : Key) → AreSorted rest → AreSorted rows
    → AreAmong rest rows
    → has_row rows gone ≡ true → has_row rest gone ≡ false → of gone ≡ true → count of rest + 1 ≤ count of rows
count_fewer of rest rows gone s t among there missing passes =
    let less : count of rest ≤ count of (with_value rows gone None) =
    count_among of rest (with_value rows gone None) s (sorted_with_value rows gone None t) without in
    let taken : count of (with_value rows gone None) + one (of gone) ≡ count of rows =
    count_delete of rows gone there in
    let is : one (of gone) ≡ 1 = ap one passes in
    omega (arith, less, taken, is)
  where
    without : AreAmong rest (with_value rows gone None)
    without at h = by (is_eq (key_cmp at gone)) refl
      where
        by : (b : Bool) → is_eq (key_cmp at gone) ≡ b → has_row (with_value rows gone None) at ≡ true
        by true e = absurd (both_ways (has_row rest gone) missing (rw (sym (one_key at gone e)) h))
        by false e = ap is_some (value_of-delete rows gone at t ∙ ap (λ b. cond b None (value_of rows at)) e)
            ∙ among at h
