-- What the deletions of all rows that pass a test leave: the rows that don't.
use Rattle.std.proofs.Common.{◌≡◌, refl, ap, sym, ◌∙◌}
use Rattle.std.specs.Prelude.{Bool, true, false, cond, ◌||◌, List, [], ◌∷◌, map, filter, Option, Some, None}
use Rattle.std.specs.List.{AllByRecursion, list_any}
use Rattle.std.specs.Ordering.{is_eq}
use Rattle.alto_rows.specs.declared.key.Key.{Key}
use Rattle.alto_rows.specs.declared.value.Value.{Value}
use Rattle.alto_rows.specs.declared.write.Write.{Write}
use Rattle.alto_rows.specs.Order.{key_cmp}
use Rattle.alto_rows.specs.Rows.{Rows, AreSorted, value_of, with_value, after}
use Rattle.alto_rows.proofs.OrderLemmas.{one_key, key_cmp_itself}
use Rattle.alto_rows.proofs.RowsLemmas.{past_first, sorted_rest, value_of-first, value_of-other, value_of-past}
use Rattle.alto_rows.proofs.SoundLemmas.{left_of}
use Rattle.alto_rows.proofs.WriteLemmas.{value_of-after, value_of-delete, value_after}

-- the deletion of a row
abbrev pub deletion : Key × Value → Write
deletion row = record { key = row.0; value = None }

-- some write is of the key
abbrev pub is_written_at : Key → List Write → Bool
is_written_at at writes = list_any (λ write. is_eq (key_cmp at write.key)) writes

-- a key whose value is gone stays without
gone_stays : (rows : Rows) (at : Key) → value_after None (map deletion rows) at ≡ None
gone_stays [] at = refl
gone_stays (row ∷ rows) at = by (gone_stays rows at) (is_eq (key_cmp at row.0))
  where
    by : value_after None (map deletion rows) at ≡ None → (b : Bool)
        → value_after (cond b None None) (map deletion rows) at ≡ None
    by more true = more
    by more false = more

-- deletions leave a key its value unless one is of the key
value_after-deletions : (rows : Rows) (old : Option Value) (at : Key)
    → value_after old (map deletion rows) at ≡ cond (is_written_at at (map deletion rows)) None old
value_after-deletions [] old at = refl
value_after-deletions (row ∷ rows) old at = by (value_after-deletions rows old at) (is_eq (key_cmp at row.0))
  where
    by : value_after old (map deletion rows) at ≡ cond (is_written_at at (map deletion rows)) None old
        → (b : Bool) → value_after (cond b None old) (map deletion rows) at
        ≡ cond (b || is_written_at at (map deletion rows)) None old
    by more true = gone_stays rows at
    by more false = more

-- the value at a key is that of a row which passes the test
abbrev passes : (Key × Value → Bool) → Key → Option Value → Bool
passes goes at None = false
passes goes at (Some v) = goes (at, v)

-- the deletions of the rows that pass are of the keys whose rows pass
written_where : (goes : Key × Value → Bool) (rows : Rows) (at : Key) → AreSorted rows
    → is_written_at at (map deletion (filter goes rows)) ≡ passes goes at (value_of rows at)
written_where goes [] at s = refl
written_where goes (row ∷ rows) at s =
    by (written_where goes rows at (sorted_rest row rows s)) (goes row) (is_eq (key_cmp at row.0)) refl refl
  where
    behind : is_eq (key_cmp at row.0) ≡ true → value_of rows at ≡ None
    behind e = rw (one_key at row.0 e) (value_of-past row.0 rows (past_first row rows s))

    first : is_eq (key_cmp at row.0) ≡ true → value_of (row ∷ rows) at ≡ Some row.1
    first e = rw e refl

    by : is_written_at at (map deletion (filter goes rows)) ≡ passes goes at (value_of rows at)
        → (b c : Bool) → goes row ≡ b → is_eq (key_cmp at row.0) ≡ c
        → is_written_at at (map deletion (filter goes (row ∷ rows))) ≡ passes goes at (value_of (row ∷ rows) at)
    by below true true e f = rw (first f, e, f, one_key at row.0 f) (sym e)
    by below true false e f = rw (value_of-other at row rows f, e, f) below
    by below false true e f = rw (first f, e) (below ∙ rw (behind f, one_key at row.0 f) (sym e))
    by below false false e f = rw (value_of-other at row rows f, e) below

-- a value of a row that passes is gone
gone_or_left : (goes : Key × Value → Bool) (at : Key) (old : Option Value)
    → cond (passes goes at old) None old ≡ left_of goes at old
gone_or_left goes at None = refl
gone_or_left goes at (Some v) = refl

-- the value at a key after the deletions of all rows that pass a test
pub value_of-deletions : (goes : Key × Value → Bool) (rows : Rows) (at : Key) → AreSorted rows
    → value_of (after rows (map deletion (filter goes rows))) at ≡ left_of goes at (value_of rows at)
value_of-deletions goes rows at s =
    value_of-after rows (map deletion (filter goes rows)) at s
    ∙ value_after-deletions (filter goes rows) (value_of rows at) at
    ∙ ap (λ b. cond b None (value_of rows at)) (written_where goes rows at s)
    ∙ gone_or_left goes at (value_of rows at)

-- the value at a key after the deletion of one key
pub value_of-deletion : (rows : Rows) (gone at : Key) → AreSorted rows
    → value_of (with_value rows gone None) at ≡ left_of (λ row. is_eq (key_cmp row.0 gone)) at (value_of rows at)
value_of-deletion rows gone at s = value_of-delete rows gone at s ∙ by (value_of rows at) (is_eq (key_cmp at gone)) refl
  where
    by : (old : Option Value) (b : Bool) → is_eq (key_cmp at gone) ≡ b
        → cond b None old ≡ left_of (λ row. is_eq (key_cmp row.0 gone)) at old
    by None true e = refl
    by None false e = refl
    by (Some v) b e = rw e refl

-- each row of sorted rows is the value at its key
pub each_row : (rest rows : Rows) → AreSorted rest
    → ((at : Key) (v : Value) → value_of rest at ≡ Some v → value_of rows at ≡ Some v)
    → AllByRecursion (λ row. value_of rows row.0 ≡ Some row.1) rest
each_row [] rows s same = tt
each_row (row ∷ rest) rows s same = (
  same row.0 row.1 (value_of-first row.0 row rest (key_cmp_itself row.0)),
  each_row rest rows (sorted_rest row rest s) (λ at v h. same at v (later at v h)),
)
  where
    later : (at : Key) (v : Value) → value_of rest at ≡ Some v → value_of (row ∷ rest) at ≡ Some v
    later at v h = by (is_eq (key_cmp at row.0)) refl
      where
        by : (b : Bool) → is_eq (key_cmp at row.0) ≡ b → value_of (row ∷ rest) at ≡ Some v
        by true e =
            let none : value_of rest at ≡ None =
            rw (one_key at row.0 e) (value_of-past row.0 rest (past_first row rest s)) in
            let both : Some v ≡ None = sym h ∙ none in
            cc
        by false e = value_of-other at row rest e ∙ h
