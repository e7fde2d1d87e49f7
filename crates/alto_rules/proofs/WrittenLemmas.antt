-- What is told of written keys, with one key more.
use Rattle.std.proofs.Common.{◌≡◌, refl}
use Rattle.std.specs.Prelude.{ℕ, Bool, true, false, cond, ◌||◌, [], ◌∷◌, ◌++◌, Option, Some, None, Ok, Err, is_some}
use Rattle.std.specs.Prelude.{length}
use Rattle.std.specs.BTreeMap as map
use Rattle.std.specs.Ordering.{is_eq}
use Rattle.alto_rows.specs.declared.key.Key.{Key}
use Rattle.alto_rows.specs.declared.value.Value.{Value}
use Rattle.alto_rows.specs.Order.{key_cmp}
use Rattle.alto_rows.specs.Place.{place_of, rows_before}
use Rattle.alto_rows.specs.Rows.{Rows, has_row, value_of}
use Rattle.alto_rows.proofs.OrderLemmas.{one_key}
use Rattle.alto_rows.proofs.RowsLemmas.{same_key_back}
use Rattle.alto_rules.specs.declared.written.Written.{Written}
use Rattle.alto_rules.specs.Written.{Gains, if_put, told, told_or}

-- a row behind others
has_row-push : (rows : Rows) (at : Key) (value : Value) (key : Key)
    → has_row (rows ++ (at, value) ∷ []) key ≡ (has_row rows key || is_eq (key_cmp key at))
has_row-push [] at value key = one (is_eq (key_cmp key at))
  where
    one : (b : Bool) → is_some (cond b (Some value) None) ≡ (false || b)
    one true = refl
    one false = refl
has_row-push (row ∷ rows) at value key = by (is_eq (key_cmp key row.0)) (has_row-push rows at value key)
  where
    by : (b : Bool) → has_row (rows ++ (at, value) ∷ []) key ≡ (has_row rows key || is_eq (key_cmp key at))
        → is_some (cond b (Some row.1) (value_of (rows ++ (at, value) ∷ []) key))
        ≡ (is_some (cond b (Some row.1) (value_of rows key)) || is_eq (key_cmp key at))
    by true below = refl
    by false below = below

-- of a key that is put behind all rows, and of which nothing was told, it is told that it has a row
pub gains_put : (before later : Written) (at : Key) (value : Value) → map.get key_cmp before.other at ≡ None
    → later.other ≡ before.other → later.put ≡ before.put ++ (at, value) ∷ [] → Gains before later at true
gains_put before later at value none other put key = by (is_eq (key_cmp at key)) refl
  where
    by : (b : Bool) → is_eq (key_cmp at key) ≡ b
        → told later key ≡ cond (is_eq (key_cmp at key)) (Some true) (told before key)
    by true e =
        let same : at ≡ key = one_key at key e in
        let nothing : map.get key_cmp before.other key ≡ None = rw same at none in
        rw (other, put, has_row-push before.put at value key, same_key_back key at, e, nothing)
        (told_true (has_row before.put key))
      where
        told_true : (h : Bool) → if_put (h || true) ≡ Some true
        told_true true = refl
        told_true false = refl
    by false e =
        rw (other, put, has_row-push before.put at value key, same_key_back key at, e)
        (told_same (map.get key_cmp before.other key) (has_row before.put key))
      where
        told_same : (o : Option Bool) (h : Bool) → told_or o (if_put (h || false)) ≡ told_or o (if_put h)
        told_same o true = refl
        told_same o false = refl

-- any other key is told of by the map
pub gains_other : (before later : Written) (at : Key) (has : Bool) → later.put ≡ before.put
    → map.Updates key_cmp before.other later.other at (Some has) → Gains before later at has
gains_other before later at has put more key =
    rw (put, more.0 key)
    (by (is_eq (key_cmp at key)) (map.get key_cmp before.other key) (if_put (has_row before.put key)))
  where
    by : (b : Bool) (o p : Option Bool) → told_or (cond b (Some has) o) p ≡ cond b (Some has) (told_or o p)
    by true o p = refl
    by false o p = refl

-- nothing is told of a key that no write is of
pub told_none : (written : Written) (at : Key) (n : ℕ) → place_of written.put at ≡ Err n
    → map.get key_cmp written.other at ≡ None → None ≡ told written at
told_none written at n place none = by (has_row written.put at) refl
  where
    by : (h : Bool) → has_row written.put at ≡ h → None ≡ told written at
    by true e = let both : Ok (length (rows_before written.put at)) ≡ Err n = rw e at place in cc
    by false e = rw (none, e) refl
