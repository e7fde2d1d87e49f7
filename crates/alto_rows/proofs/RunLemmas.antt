-- Runs of sorted rows: the rows from a key on, the rows after it, and what is left after a run.
use Rattle.std.proofs.Common.{◌≡◌, refl, ap, sym, ◌∙◌, append_assoc, append-nil}
use Rattle.std.proofs.lemmas.List.Sums.{take_while-cons}
use Rattle.std.proofs.lemmas.Map.Entries.{lookup-filter-keys}
use Rattle.std.specs.Prelude.{Bool, true, false, cond, not, [], ◌∷◌, ◌++◌, filter, take_while, Some, None, MatchOption}
use Rattle.std.specs.Prelude.{slice_get}
use Rattle.std.specs.List.{AllByRecursion}
use Rattle.std.specs.BTreeMap.{is_at}
use Rattle.std.specs.Ordering.{is_eq, is_gt, is_lt}
use Rattle.std.specs.declared.cmp.Ordering.{Ordering}
use Rattle.std.specs.declared.cmp.Ordering.TheVariants.{Less, Equal, Greater}
use Rattle.alto_rows.specs.declared.key.Key.{Key}
use Rattle.alto_rows.specs.declared.value.Value.{Value}
use Rattle.alto_rows.specs.Order.{key_cmp}
use Rattle.alto_rows.specs.Rows.{Rows, AreSorted, value_of, rows_from, rows_past, IsRunOf}
use Rattle.alto_rows.proofs.OrderLemmas.{key_cmp_exact, key_cmp_itself, one_key}
use Rattle.alto_rows.proofs.RowsLemmas.{AreBefore, ArePast, past_first, past_lesser, sorted_rest, sorted_right}
use Rattle.alto_rows.proofs.RowsLemmas.{before_middle, past_middle, value_of-past, value_of-first, value_of-other}

-- ---- where rows end and begin

-- the rows before a key aren't from it on
pub rows_from-before : (key : Key) (before rest : Rows) → AreBefore key before
    → rows_from (before ++ rest) key ≡ rows_from rest key
rows_from-before key [] rest h = refl
rows_from-before key (row ∷ before) rest h = rw h.0 (rows_from-before key before rest h.1)

-- the rows after a key are all from it on
pub rows_from-past : (key : Key) (rows : Rows) → ArePast key rows → rows_from rows key ≡ rows
rows_from-past key [] h = refl
rows_from-past key (row ∷ rows) h = rw h.0 (ap (λ (more : Rows). row ∷ more) (rows_from-past key rows h.1))

-- and so are the key's own row and those after it
pub rows_from-at : (key : Key) (row : Key × Value) (rows : Rows) → key_cmp key row.0 ≡ Equal → ArePast key rows
    → rows_from (row ∷ rows) key ≡ row ∷ rows
rows_from-at key row rows e h = rw e (ap (λ (more : Rows). row ∷ more) (rows_from-past key rows h))

-- the rows before a key aren't after it
pub rows_past-before : (key : Key) (before rest : Rows) → AreBefore key before
    → rows_past (before ++ rest) key ≡ rows_past rest key
rows_past-before key [] rest h = refl
rows_past-before key (row ∷ before) rest h = rw h.0 (rows_past-before key before rest h.1)

-- the rows after a key are all after it
pub rows_past-past : (key : Key) (rows : Rows) → ArePast key rows → rows_past rows key ≡ rows
rows_past-past key [] h = refl
rows_past-past key (row ∷ rows) h = rw h.0 (ap (λ (more : Rows). row ∷ more) (rows_past-past key rows h.1))

-- the key's own row isn't
pub rows_past-at : (key : Key) (row : Key × Value) (rows : Rows) → key_cmp key row.0 ≡ Equal → ArePast key rows
    → rows_past (row ∷ rows) key ≡ rows
rows_past-at key row rows e h = rw e (rows_past-past key rows h)

-- after a row of sorted rows come the rows that stand behind it
pub rows_past-middle : (front : Rows) (row : Key × Value) (back : Rows) → AreSorted (front ++ row ∷ back)
    → rows_past (front ++ row ∷ back) row.0 ≡ back
rows_past-middle front row back s =
    rows_past-before row.0 front (row ∷ back) (before_middle front row back s)
    ∙ rows_past-at row.0 row back (key_cmp_itself row.0) (past_middle front row back s)

-- ---- the rows from a key on are the last rows

-- the last rows of all
pub record IsTail (all tail : Rows) : Type 0 where
  pub front : Rows
  pub whole : all ≡ front ++ tail

-- the last rows of rows with one more before them
pub tail_more : (row : Key × Value) (all tail : Rows) → IsTail all tail → IsTail (row ∷ all) tail
tail_more row all tail t = record { front = row ∷ t.front; whole = ap (λ (more : Rows). row ∷ more) t.whole }

-- the rows from a key on are the last rows
pub rows_from_tail : (rows : Rows) (key : Key) → AreSorted rows → IsTail rows (rows_from rows key)
rows_from_tail [] key s = record { front = []; whole = refl }
rows_from_tail (row ∷ rows) key s = by (rows_from_tail rows key (sorted_rest row rows s)) (key_cmp key row.0) refl
  where
    by : IsTail rows (rows_from rows key) → (o : Ordering) → key_cmp key row.0 ≡ o
        → IsTail (row ∷ rows) (rows_from (row ∷ rows) key)
    by below Greater e = rw e (tail_more row rows (rows_from rows key) below)
    by below Equal e =
        let same : key ≡ row.0 = key_cmp_exact key row.0 e in
        rw (rows_from-at key row rows e (rw same (past_first row rows s))) (record { front = []; whole = refl })
    by below Less e =
        rw (rows_from-past key (row ∷ rows) (e, past_lesser key row.0 e rows (past_first row rows s)))
        (record { front = []; whole = refl })

-- the rows after a key are the last rows
pub rows_past_tail : (rows : Rows) (key : Key) → AreSorted rows → IsTail rows (rows_past rows key)
rows_past_tail [] key s = record { front = []; whole = refl }
rows_past_tail (row ∷ rows) key s = by (rows_past_tail rows key (sorted_rest row rows s)) (key_cmp key row.0) refl
  where
    by : IsTail rows (rows_past rows key) → (o : Ordering) → key_cmp key row.0 ≡ o
        → IsTail (row ∷ rows) (rows_past (row ∷ rows) key)
    by below Greater e = rw e (tail_more row rows (rows_past rows key) below)
    by below Equal e = rw e (tail_more row rows (rows_past rows key) below)
    by below Less e =
        rw (rows_past-past key (row ∷ rows) (e, past_lesser key row.0 e rows (past_first row rows s)))
        (record { front = []; whole = refl })

-- the last rows of sorted rows are sorted
pub sorted_tail_rows : (rows tail : Rows) → AreSorted rows → IsTail rows tail → AreSorted tail
sorted_tail_rows rows tail s t = sorted_right t.front tail (rw t.whole at s)

-- the rows from a key on are sorted
pub sorted_rows_from : (rows : Rows) (key : Key) → AreSorted rows → AreSorted (rows_from rows key)
sorted_rows_from rows key s = sorted_tail_rows rows (rows_from rows key) s (rows_from_tail rows key s)

-- the rows after a key are sorted
pub sorted_rows_past : (rows : Rows) (key : Key) → AreSorted rows → AreSorted (rows_past rows key)
sorted_rows_past rows key s = sorted_tail_rows rows (rows_past rows key) s (rows_past_tail rows key s)

-- ---- what is left after a run

-- where the last rows begin with a run, the rows after its last key are those behind the run
pub rows_past_run : (rows tail front : Rows) (row : Key × Value) (back : Rows) → AreSorted rows → IsTail rows tail
    → tail ≡ (front ++ row ∷ []) ++ back
    → rows_past rows row.0 ≡ back
rows_past_run rows tail front row back s t h =
    let run : (front ++ row ∷ []) ++ back ≡ front ++ row ∷ back = append_assoc front (row ∷ []) back in
    let split : rows ≡ (t.front ++ front) ++ row ∷ back =
    t.whole ∙ (rw (h, run) refl ∙ sym (append_assoc t.front front (row ∷ back))) in
    rw split (rows_past-middle (t.front ++ front) row back (rw split at s))

-- after a run of the rows from a key on
pub rows_past_run_from : (rows : Rows) (key : Key) (front : Rows) (row : Key × Value) (back : Rows) → AreSorted rows
    → rows_from rows key ≡ (front ++ row ∷ []) ++ back → rows_past rows row.0 ≡ back
rows_past_run_from rows key front row back s h =
    rows_past_run rows (rows_from rows key) front row back s (rows_from_tail rows key s) h

-- after a run of the rows after a key
pub rows_past_run_past : (rows : Rows) (key : Key) (front : Rows) (row : Key × Value) (back : Rows) → AreSorted rows
    → rows_past rows key ≡ (front ++ row ∷ []) ++ back → rows_past rows row.0 ≡ back
rows_past_run_past rows key front row back s h =
    rows_past_run rows (rows_past rows key) front row back s (rows_past_tail rows key s) h

-- ---- what the rows from a key on hold

-- the rows from a key on keep the values of the keys that aren't before it
pub value_of-rows_from : (rows : Rows) (key other : Key)
    → value_of (rows_from rows key) other ≡ cond (not (is_gt (key_cmp key other))) (value_of rows other) None
value_of-rows_from rows key other =
    lookup-filter-keys (is_at (key_cmp other)) (λ at. not (is_gt (key_cmp key at))) (not (is_gt (key_cmp key other)))
    (λ at e. let same : other ≡ at = one_key other at e in rw same refl) rows

-- the rows after a key keep the values of the keys after it
pub value_of-rows_past : (rows : Rows) (key other : Key)
    → value_of (rows_past rows key) other ≡ cond (is_lt (key_cmp key other)) (value_of rows other) None
value_of-rows_past rows key other =
    lookup-filter-keys (is_at (key_cmp other)) (λ at. is_lt (key_cmp key at)) (is_lt (key_cmp key other))
    (λ at e. let same : other ≡ at = one_key other at e in rw same refl) rows

-- the rows after a key are after it
pub past_rows_past : (rows : Rows) (key : Key) → ArePast key (rows_past rows key)
past_rows_past [] key = tt
past_rows_past (row ∷ rows) key = by (past_rows_past rows key) (key_cmp key row.0) refl
  where
    by : ArePast key (rows_past rows key) → (o : Ordering) → key_cmp key row.0 ≡ o
        → ArePast key (rows_past (row ∷ rows) key)
    by below Less e = rw e (e, below)
    by below Equal e = rw e below
    by below Greater e = rw e below

-- no row is before the key
abbrev pub AreFrom : Key → Rows → Type 0
AreFrom key rows = AllByRecursion (λ row. is_gt (key_cmp key row.0) ≡ false) rows

-- the rows from a key on aren't before it
pub from_rows_from : (rows : Rows) (key : Key) → AreFrom key (rows_from rows key)
from_rows_from [] key = tt
from_rows_from (row ∷ rows) key = by (from_rows_from rows key) (key_cmp key row.0) refl
  where
    by : AreFrom key (rows_from rows key) → (o : Ordering) → key_cmp key row.0 ≡ o
        → AreFrom key (rows_from (row ∷ rows) key)
    by below Less e = rw e (rw e refl, below)
    by below Equal e = rw e (rw e refl, below)
    by below Greater e = rw e below

-- the rows from a key on are its own row, where it has one, and the rows after it
pub rows_from_own : (rows : Rows) (key : Key) → AreSorted rows
    → MatchOption (value_of rows key) (rows_from rows key ≡ rows_past rows key) (λ value. rows_from rows key
    ≡ (key, value) ∷ rows_past rows key)
rows_from_own [] key s = refl
rows_from_own (row ∷ rows) key s = by (rows_from_own rows key (sorted_rest row rows s)) (key_cmp key row.0) refl
  where
    by : MatchOption (value_of rows key) (rows_from rows key ≡ rows_past rows key) (λ value. rows_from rows key
        ≡ (key, value) ∷ rows_past rows key)
        → (o : Ordering) → key_cmp key row.0 ≡ o
        → MatchOption (value_of (row ∷ rows) key) (rows_from (row ∷ rows) key ≡ rows_past (row ∷ rows) key)
        (λ value. rows_from (row ∷ rows) key ≡ (key, value) ∷ rows_past (row ∷ rows) key)
    by below Greater e = rw e below
    by below Equal e =
        let same : key ≡ row.0 = key_cmp_exact key row.0 e in
        let past : ArePast key rows = rw same (past_first row rows s) in
        rw (
          value_of-first key row rows e,
          rows_from-at key row rows e past,
          rows_past-at key row rows e past,
        ) (rw same refl)
    by below Less e =
        let past : ArePast key (row ∷ rows) = (e, past_lesser key row.0 e rows (past_first row rows s)) in
        rw (
          value_of-past key (row ∷ rows) past,
          rows_from-past key (row ∷ rows) past,
          rows_past-past key (row ∷ rows) past,
        ) refl

-- ---- the rows of an interval of keys

-- from a lower end on the keys that pass a test come together: each key before one that passes does too
pub record IsIntervalFrom (low : Key) (test : Key → Bool) : Type 0 where
  pub whole : (key next : Key) → is_gt (key_cmp low key) ≡ false → key_cmp key next ≡ Less → test next ≡ true
      → test key ≡ true

-- no row whose key passes is before the lower end
abbrev pub AreAbove : Key → (Key → Bool) → Rows → Type 0
AreAbove low test rows = AllByRecursion (λ row. test row.0 ≡ true → is_gt (key_cmp low row.0) ≡ false) rows

-- what holds of each key with a value holds of each row's key
pub all_keys : (P : Key → Type 0) (rows : Rows) → AreSorted rows
    → ((key : Key) (value : Value) → value_of rows key ≡ Some value → P key)
    → AllByRecursion (λ row. P row.0) rows
all_keys P [] s all = tt
all_keys P (row ∷ rows) s all = (
  all row.0 row.1 (value_of-first row.0 row rows (key_cmp_itself row.0)),
  all_keys P rows (sorted_rest row rows s)
      (λ key value here. all key value (value_of-other key row rows (apart key value here) ∙ here)),
)
  where
    apart : (key : Key) (value : Value) → value_of rows key ≡ Some value → is_eq (key_cmp key row.0) ≡ false
    apart key value here = by (is_eq (key_cmp key row.0)) refl
      where
        by : (b : Bool) → is_eq (key_cmp key row.0) ≡ b → is_eq (key_cmp key row.0) ≡ false
        by false e = e
        by true e =
            let one : key ≡ row.0 = one_key key row.0 e in
            let none : value_of rows key ≡ None = rw one (value_of-past row.0 rows (past_first row rows s)) in
            let both : Some value ≡ None = sym here ∙ none in
            cc

-- behind a row from the lower end on that fails, none passes
none_behind : (low : Key) (test : Key → Bool) (row : Key × Value) (rows : Rows) → IsIntervalFrom low test
    → is_gt (key_cmp low row.0) ≡ false → test row.0 ≡ false
    → ArePast row.0 rows → filter (λ next. test next.0) rows ≡ []
none_behind low test row [] interval from fails past = refl
none_behind low test row (next ∷ rows) interval from fails past =
    by (none_behind low test row rows interval from fails past.1) (test next.0) refl
  where
    by : filter (λ next. test next.0) rows ≡ [] → (b : Bool) → test next.0 ≡ b
        → filter (λ next. test next.0) (next ∷ rows) ≡ []
    by below false e = rw e below
    by below true e = let passes : test row.0 ≡ true = interval.whole row.0 next.0 from past.0 e in cc

-- of sorted rows none of which is before the lower end, the first ones are in the interval
first_pass : (low : Key) (test : Key → Bool) (rows : Rows) → IsIntervalFrom low test → AreSorted rows → AreFrom low rows
    → filter (λ row. test row.0) rows ≡ take_while (λ row. test row.0) rows
first_pass low test [] interval s from = refl
first_pass low test (row ∷ rows) interval s from =
    by (first_pass low test rows interval (sorted_rest row rows s) from.1) (test row.0) refl
  where
    by : filter (λ row. test row.0) rows ≡ take_while (λ row. test row.0) rows → (b : Bool) → test row.0 ≡ b
        → filter (λ row. test row.0) (row ∷ rows) ≡ take_while (λ row. test row.0) (row ∷ rows)
    by below true e = rw (take_while-cons (λ (next : Key × Value). test next.0) row rows, e)
        (ap (λ (more : Rows). row ∷ more) below)
    by below false e = rw (take_while-cons (λ (next : Key × Value). test next.0) row rows, e)
        (none_behind low test row rows interval from.0 e (past_first row rows s))

-- what passes is from the lower end on
pass_from : (low : Key) (test : Key → Bool) (rows : Rows) → AreAbove low test rows
    → filter (λ row. test row.0) rows ≡ filter (λ row. test row.0) (rows_from rows low)
pass_from low test [] above = refl
pass_from low test (row ∷ rows) above =
    by (pass_from low test rows above.1) (test row.0) (is_gt (key_cmp low row.0)) refl refl
  where
    by : filter (λ row. test row.0) rows ≡ filter (λ row. test row.0) (rows_from rows low) → (b g : Bool)
        → test row.0 ≡ b → is_gt (key_cmp low row.0) ≡ g
        → filter (λ row. test row.0) (row ∷ rows) ≡ filter (λ row. test row.0) (rows_from (row ∷ rows) low)
    by below true true e f = let from : is_gt (key_cmp low row.0) ≡ false = above.0 e in cc
    by below false true e f = rw (e, f) below
    by below true false e f = rw (f, e) (ap (λ (more : Rows). row ∷ more) below)
    by below false false e f = rw (f, e) below

-- the rows of an interval of keys are the first rows from its lower end on, up to the first key outside: so a walk
-- finds them
pub interval_walk : (low : Key) (test : Key → Bool) (rows : Rows) → IsIntervalFrom low test → AreAbove low test rows
    → AreSorted rows
    → filter (λ row. test row.0) rows ≡ take_while (λ row. test row.0) (rows_from rows low)
interval_walk low test rows interval above s =
    pass_from low test rows above ∙ first_pass low test (rows_from rows low) interval (sorted_rows_from rows low s)
    (from_rows_from rows low)

-- ---- what a run is

-- all rows are a run of themselves
pub whole_run : (all run : Rows) → run ≡ all → IsRunOf all run
whole_run all run same = record { rest = []; whole = rw (same, append-nil) refl; some = λ none. sym same ∙ none }

-- the first row of a run is the first of all
pub first_of_run : (all run : Rows) → IsRunOf all run → slice_get run 0 ≡ slice_get all 0
first_of_run all [] r = rw (r.some refl) refl
first_of_run all (row ∷ run) r = rw r.whole refl
