-- What writes do: the value at each key after them, that rows stay sorted, and writes in two parts.
use Rattle.std.proofs.Common.{◌≡◌, refl, ap, ◌∙◌}
use Rattle.std.proofs.lemmas.Cmp.{eq_by_cmp_equiv}
use Rattle.std.proofs.lemmas.Map.Keys.{IsDistinct-from_sorted}
use Rattle.std.proofs.lemmas.Map.{lookup-remove_entry}
use Rattle.std.specs.Prelude.{Bool, true, false, cond, List, [], ◌∷◌, ◌++◌, Option, Some, None}
use Rattle.std.specs.List.{AllByRecursion}
use Rattle.std.specs.Map.{keys_of}
use Rattle.std.specs.BTreeMap.{is_at}
use Rattle.std.specs.Ordering.{is_eq}
use Rattle.std.specs.declared.cmp.Ordering.{Ordering}
use Rattle.std.specs.declared.cmp.Ordering.TheVariants.{Less, Equal, Greater}
use Rattle.alto_rows.specs.declared.key.Key.{Key}
use Rattle.alto_rows.specs.declared.value.Value.{Value}
use Rattle.alto_rows.specs.declared.write.Write.{Write}
use Rattle.alto_rows.specs.Order.{key_cmp}
use Rattle.alto_rows.specs.Rows.{Rows, AreSorted, value_of, with_value, after}
use Rattle.alto_rows.proofs.OrderLemmas.{key_cmp_total, key_cmp_exact, key_cmp_itself}
use Rattle.alto_rows.proofs.RowsLemmas.{ArePast, greater_back, same_key_back, past_first, sorted_rest, sorted_more}
use Rattle.alto_rows.proofs.RowsLemmas.{past_lesser}

-- ---- the value at a key after a write

-- after a put each key has what it had, but for the key of the put
pub value_of-put : (rows : Rows) (key : Key) (value : Value) (other : Key)
    → value_of (with_value rows key (Some value)) other
    ≡ cond (is_eq (key_cmp other key)) (Some value) (value_of rows other)
value_of-put [] key value other = refl
value_of-put (row ∷ rows) key value other = by (value_of-put rows key value other) (key_cmp key row.0) refl
  where
    apart : (o p : Ordering) → key_cmp other row.0 ≡ o → key_cmp other key ≡ p → key_cmp key row.0 ≡ Greater
        → cond (is_eq o) (Some row.1) (cond (is_eq p) (Some value) (value_of rows other))
        ≡ cond (is_eq p) (Some value) (cond (is_eq o) (Some row.1) (value_of rows other))
    apart Equal Equal e f g =
        let two : other ≡ key = key_cmp_exact other key f in
        let tie : key_cmp key row.0 ≡ Equal = rw (← two) e in
        cc
    apart Less p e f g = refl
    apart Greater p e f g = refl
    apart Equal Less e f g = refl
    apart Equal Greater e f g = refl

    by : value_of (with_value rows key (Some value)) other
        ≡ cond (is_eq (key_cmp other key)) (Some value) (value_of rows other) → (o : Ordering) → key_cmp key row.0 ≡ o
        → value_of (with_value (row ∷ rows) key (Some value)) other
        ≡ cond (is_eq (key_cmp other key)) (Some value) (value_of (row ∷ rows) other)
    by below Less e = rw e refl
    by below Equal e =
        let same : key ≡ row.0 = key_cmp_exact key row.0 e in
        rw (e, ← same) (twice (is_eq (key_cmp other key)))
      where
        twice : (b : Bool) → cond b (Some value) (value_of rows other)
            ≡ cond b (Some value) (cond b (Some row.1) (value_of rows other))
        twice true = refl
        twice false = refl
    by below Greater e = rw (e, below) (apart (key_cmp other row.0) (key_cmp other key) refl refl e)

-- after a deletion each key has what it had, but for the key of the deletion
pub value_of-delete : (rows : Rows) (key : Key) (other : Key) → AreSorted rows
    → value_of (with_value rows key None) other ≡ cond (is_eq (key_cmp other key)) None (value_of rows other)
value_of-delete rows key other s =
    rw (same_key_back other key)
    (lookup-remove_entry (eq_by_cmp_equiv key_cmp_total) (is_at (key_cmp key))
    (λ x y e. (eq_by_cmp_equiv key_cmp_total).congr key x y e) other
    rows (IsDistinct-from_sorted key_cmp (keys_of rows) s))

-- after a write each key has what it had, but for the key of the write
pub value_of-with_value : (rows : Rows) (key : Key) (value : Option Value) (other : Key) → AreSorted rows
    → value_of (with_value rows key value) other ≡ cond (is_eq (key_cmp other key)) value (value_of rows other)
value_of-with_value rows key None other s = value_of-delete rows key other s
value_of-with_value rows key (Some value) other s = value_of-put rows key value other

-- the key of a write has the write's value
pub value_of-written : (rows : Rows) (key : Key) (value : Option Value) → AreSorted rows
    → value_of (with_value rows key value) key ≡ value
value_of-written rows key value s = rw (value_of-with_value rows key value key s, key_cmp_itself key) refl

-- another key keeps its value
pub value_of-unwritten : (rows : Rows) (key : Key) (value : Option Value) (other : Key) → AreSorted rows
    → is_eq (key_cmp other key) ≡ false
    → value_of (with_value rows key value) other ≡ value_of rows other
value_of-unwritten rows key value other s apart = rw (value_of-with_value rows key value other s, apart) refl

-- ---- rows stay sorted

-- what is after a key stays so when a later key is written
past_put : (low key : Key) (value : Value) (rows : Rows) → key_cmp low key ≡ Less → ArePast low rows
    → ArePast low (with_value rows key (Some value))
past_put low key value [] less past = (less, tt)
past_put low key value (row ∷ rows) less past = by (past_put low key value rows less past.1) (key_cmp key row.0) refl
  where
    by : ArePast low (with_value rows key (Some value)) → (o : Ordering) → key_cmp key row.0 ≡ o
        → ArePast low (with_value (row ∷ rows) key (Some value))
    by below Less e = rw e (less, past)
    by below Equal e = rw e past
    by below Greater e = rw e (past.0, below)

-- what is after a key stays so when a key is deleted
past_delete : (low key : Key) (rows : Rows) → ArePast low rows → ArePast low (with_value rows key None)
past_delete low key [] past = past
past_delete low key (row ∷ rows) past = by (past_delete low key rows past.1) (is_eq (key_cmp key row.0)) refl
  where
    by : ArePast low (with_value rows key None) → (b : Bool) → is_eq (key_cmp key row.0) ≡ b
        → ArePast low (with_value (row ∷ rows) key None)
    by below true e = rw e past.1
    by below false e = rw e (past.0, below)

sorted_put : (rows : Rows) (key : Key) (value : Value) → AreSorted rows → AreSorted (with_value rows key (Some value))
sorted_put [] key value s = sorted_more (key, value) [] tt s
sorted_put (row ∷ rows) key value s = by (sorted_put rows key value (sorted_rest row rows s)) (key_cmp key row.0) refl
  where
    by : AreSorted (with_value rows key (Some value)) → (o : Ordering) → key_cmp key row.0 ≡ o
        → AreSorted (with_value (row ∷ rows) key (Some value))
    by below Less e = rw e (sorted_more (key, value) (row ∷ rows)
        (e, past_lesser key row.0 e rows (past_first row rows s)) s)
    by below Equal e = rw e (sorted_more (row.0, value) rows (past_first row rows s) (sorted_rest row rows s))
    by below Greater e = rw e (sorted_more row (with_value rows key (Some value))
        (past_put row.0 key value rows (greater_back key row.0 e) (past_first row rows s)) below)

sorted_delete : (rows : Rows) (key : Key) → AreSorted rows → AreSorted (with_value rows key None)
sorted_delete [] key s = s
sorted_delete (row ∷ rows) key s = by (sorted_delete rows key (sorted_rest row rows s)) (is_eq (key_cmp key row.0)) refl
  where
    by : AreSorted (with_value rows key None) → (b : Bool) → is_eq (key_cmp key row.0) ≡ b
        → AreSorted (with_value (row ∷ rows) key None)
    by below true e = rw e (sorted_rest row rows s)
    by below false e = rw e (sorted_more row (with_value rows key None)
        (past_delete row.0 key rows (past_first row rows s)) below)

-- rows stay sorted under a write
pub sorted_with_value : (rows : Rows) (key : Key) (value : Option Value) → AreSorted rows
    → AreSorted (with_value rows key value)
sorted_with_value rows key None s = sorted_delete rows key s
sorted_with_value rows key (Some value) s = sorted_put rows key value s

-- rows stay sorted under writes
pub sorted_after : (rows : Rows) (writes : List Write) → AreSorted rows → AreSorted (after rows writes)
sorted_after rows [] s = s
sorted_after rows (write ∷ writes) s =
    sorted_after (with_value rows write.key write.value) writes (sorted_with_value rows write.key write.value s)

-- ---- many writes

-- writes in two parts are the one after the other
pub after-append : (rows : Rows) (first second : List Write)
    → after rows (first ++ second) ≡ after (after rows first) second
after-append rows [] second = refl
after-append rows (write ∷ first) second = after-append (with_value rows write.key write.value) first second

-- one write more
pub after-push : (rows : Rows) (writes : List Write) (write : Write)
    → after rows (writes ++ write ∷ []) ≡ with_value (after rows writes) write.key write.value
after-push rows writes write = after-append rows writes (write ∷ [])

-- the value that writes leave at a key, from the value before them
abbrev pub value_after : Option Value → List Write → Key → Option Value
value_after old [] key = old
value_after old (write ∷ writes) key = value_after (cond (is_eq (key_cmp key write.key)) write.value old) writes key

-- the value at a key after writes hangs on the value before them alone
pub value_of-after : (rows : Rows) (writes : List Write) (key : Key) → AreSorted rows
    → value_of (after rows writes) key ≡ value_after (value_of rows key) writes key
value_of-after rows [] key s = refl
value_of-after rows (write ∷ writes) key s =
    value_of-after (with_value rows write.key write.value) writes key (sorted_with_value rows write.key write.value s)
    ∙ ap (λ old. value_after old writes key) (value_of-with_value rows write.key write.value key s)

-- the value at a key after one write more
pub value_of-after-push : (rows : Rows) (writes : List Write) (write : Write) (key : Key) → AreSorted rows
    → value_of (after rows (writes ++ write ∷ [])) key
    ≡ cond (is_eq (key_cmp key write.key)) write.value (value_of (after rows writes) key)
value_of-after-push rows writes write key s =
    rw (after-push rows writes write) (value_of-with_value (after rows writes) write.key write.value
    key (sorted_after rows writes s))

-- no key of the writes is the key
abbrev pub NoneWrites : Key → List Write → Type 0
NoneWrites key writes = AllByRecursion (λ write. is_eq (key_cmp key write.key) ≡ false) writes

-- a key that no write is of keeps its value
pub value_of-after-none : (rows : Rows) (writes : List Write) (key : Key) → AreSorted rows → NoneWrites key writes
    → value_of (after rows writes) key ≡ value_of rows key
value_of-after-none rows [] key s none = refl
value_of-after-none rows (write ∷ writes) key s none =
    value_of-after-none (with_value rows write.key write.value) writes
    key (sorted_with_value rows write.key write.value s) none.1
    ∙ value_of-unwritten rows write.key write.value key s none.0
