-- The place of a key in sorted rows: what stands before and behind it, and what an edit there does.
use Rattle.std.proofs.Common.{◌≡◌, ℕ, ◌+◌, ◌<◌, refl, ap, sym, ◌∙◌, arith, length-append, take, drop, get_or, zero, suc}
use Rattle.std.proofs.Common.{append-nil}
use Rattle.std.proofs.Math.Seq.{drop-append_seam, drop-append-add, take-append_seam, get_or-append_seam}
use Rattle.std.specs.Prelude.{true, [], ◌∷◌, ◌++◌, length, Option, Some, None, Ok, Err, slice_get}
use Rattle.std.specs.List.Sorted.{IsStrictlySortedBy}
use Rattle.std.specs.Ordering.{is_lt}
use Rattle.std.specs.declared.cmp.Ordering.{Ordering}
use Rattle.std.specs.declared.cmp.Ordering.TheVariants.{Less, Equal, Greater}
use Rattle.alto_rows.specs.declared.key.Key.{Key}
use Rattle.alto_rows.specs.declared.value.Value.{Value}
use Rattle.alto_rows.specs.Order.{key_cmp}
use Rattle.alto_rows.specs.Rows.{Rows, AreSorted, value_of, with_value, rows_from, rows_past}
use Rattle.alto_rows.specs.Place.{rows_before, place_of}
use Rattle.alto_rows.proofs.OrderLemmas.{key_cmp_exact, key_cmp_itself, key_cmp_total}
use Rattle.alto_rows.proofs.RowsLemmas.{AreBefore, ArePast, greater_back, less_back, past_first, past_lesser}
use Rattle.alto_rows.proofs.RowsLemmas.{sorted_join, sorted_more, sorted_rest, before_middle, past_middle}
use Rattle.alto_rows.proofs.RowsLemmas.{value_of-before, value_of-past, value_of-middle}
use Rattle.alto_rows.proofs.RunLemmas.{rows_from-before, rows_from-past, rows_from-at, rows_past-before, rows_past-past}
use Rattle.alto_rows.proofs.RunLemmas.{rows_past-middle}

-- no rows are sorted
no_rows : AreSorted []
unfolding IsStrictlySortedBy
no_rows = tt

-- ---- the rows before a key

-- rows before a key are before it
pub rows_before-before : (key : Key) (before rest : Rows) → AreBefore key before
    → rows_before (before ++ rest) key ≡ before ++ rows_before rest key
rows_before-before key [] rest h = refl
rows_before-before key (row ∷ before) rest h =
    rw h.0 (ap (λ (more : Rows). row ∷ more) (rows_before-before key before rest h.1))

-- rows after a key aren't
pub rows_before-past : (key : Key) (rows : Rows) → ArePast key rows → rows_before rows key ≡ []
rows_before-past key [] h = refl
rows_before-past key (row ∷ rows) h = rw h.0 (rows_before-past key rows h.1)

-- ---- rows round a key

-- the key's row stands at a place
pub record IsFound (rows : Rows) (key : Key) (at : ℕ) : Type 0 where
  pub front : Rows
  pub value : Value
  pub back : Rows
  pub whole : rows ≡ front ++ (key, value) ∷ back
  pub place : at ≡ length front

-- the key has no row, and would have it at a place
pub record IsMissing (rows : Rows) (key : Key) (at : ℕ) : Type 0 where
  pub front : Rows
  pub back : Rows
  pub whole : rows ≡ front ++ back
  pub place : at ≡ length front
  pub before : AreBefore key front
  pub past : ArePast key back

-- a row that is found has its place
pub place_of-found : (rows : Rows) (key : Key) (at : ℕ) → AreSorted rows → IsFound rows key at
    → place_of rows key ≡ Ok at
place_of-found rows key at s f =
    let split : AreSorted (f.front ++ (key, f.value) ∷ f.back) = rw f.whole at s in
    rw (
      f.whole,
      value_of-middle f.front (key, f.value) f.back split,
      rows_before-before key f.front ((key, f.value) ∷ f.back) (before_middle f.front (key, f.value) f.back split),
      key_cmp_itself key,
      rows_before-past key f.back (past_middle f.front (key, f.value) f.back split),
      f.place,
    )
    (ap (λ (n : ℕ). Ok n) (length-append f.front [] ∙ omega arith))

-- a row that is missing has the place where it would go
pub place_of-missing : (rows : Rows) (key : Key) (at : ℕ) → IsMissing rows key at → place_of rows key ≡ Err at
place_of-missing rows key at m =
    rw (
      m.whole,
      value_of-before key m.front m.back m.before,
      value_of-past key m.back m.past,
      rows_before-before key m.front m.back m.before,
      rows_before-past key m.back m.past,
      m.place,
    )
    (ap (λ (n : ℕ). Err n) (length-append m.front [] ∙ omega arith))

-- sorted rows have a key's row, or a place for it
pub data IsPlaced (rows : Rows) (key : Key) : Type 0 where
  found : (at : ℕ) → IsFound rows key at → IsPlaced rows key
  missing : (at : ℕ) → IsMissing rows key at → IsPlaced rows key

-- every key has its place in sorted rows
pub placed : (rows : Rows) (key : Key) → AreSorted rows → IsPlaced rows key
placed [] key s = missing 0 (record { front = []; back = []; whole = refl; place = refl; before = tt; past = tt })
placed (row ∷ rows) key s = by (placed rows key (sorted_rest row rows s)) (key_cmp key row.0) refl
  where
    by : IsPlaced rows key → (o : Ordering) → key_cmp key row.0 ≡ o → IsPlaced (row ∷ rows) key
    by below Less e =
        missing 0 (record {
          front = [];
          back = row ∷ rows;
          whole = refl;
          place = refl;
          before = tt;
          past = (e, past_lesser key row.0 e rows (past_first row rows s));
        })
    by below Equal e =
        let same : key ≡ row.0 = key_cmp_exact key row.0 e in
        found 0 (record { front = []; value = row.1; back = rows; whole = rw same refl; place = refl })
    by (found at f) Greater e =
        found (suc at) (record {
          front = row ∷ f.front;
          value = f.value;
          back = f.back;
          whole = ap (λ (more : Rows). row ∷ more) f.whole;
          place = ap suc f.place;
        })
    by (missing at m) Greater e =
        missing (suc at) (record {
          front = row ∷ m.front;
          back = m.back;
          whole = ap (λ (more : Rows). row ∷ more)
              m.whole;
          place = ap suc m.place;
          before = (e, m.before);
          past = m.past;
        })

-- a key before the first row has its place there
pub place_before_first : (rows : Rows) (key : Key) (first : Key × Value) → AreSorted rows
    → slice_get rows 0 ≡ Some first → key_cmp key first.0 ≡ Less
    → place_of rows key ≡ Err 0
place_before_first [] key first s is e = cc
place_before_first (row ∷ rows) key first s is e =
    let same : row ≡ first = cc in
    let less : key_cmp key row.0 ≡ Less = rw same e in
    place_of-missing (row ∷ rows) key 0
    (record {
      front = [];
      back = row ∷ rows;
      whole = refl;
      place = refl;
      before = tt;
      past = (less, past_lesser key row.0 less rows (past_first row rows s));
    })

-- what is before is less
pub less_tests : (o : Ordering) → is_lt o ≡ true → o ≡ Less
less_tests Less h = refl
less_tests Equal h = cc
less_tests Greater h = cc

-- rows are before a key where the last one is
before_last : (rows : Rows) (at : ℕ) (d : Key × Value) (key : Key) → AreSorted rows → suc at ≡ length rows
    → key_cmp (get_or rows at d).0 key ≡ Less
    → AreBefore key rows
before_last [] at d key s last less = tt
before_last (row ∷ []) zero d key s last less = (less_back row.0 key less, tt)
before_last (row ∷ []) (suc at) d key s last less = absurd (omega (arith, last))
before_last (row ∷ next ∷ rows) zero d key s last less = absurd (omega (arith, last))
before_last (row ∷ next ∷ rows) (suc at) d key s last less =
    let more : AreBefore key (next ∷ rows) = before_last (next ∷ rows) at d key (sorted_rest row (next ∷ rows) s)
    (omega (arith, last)) less in
    let step : key_cmp row.0 next.0 ≡ Less = (past_first row (next ∷ rows) s).0 in
    (less_back row.0 key (key_cmp_total.trans row.0 next.0 key step (greater_back key next.0 more.0)), more)

-- so the key goes behind them
pub place_behind_last : (rows : Rows) (at : ℕ) (d : Key × Value) (key : Key) → AreSorted rows → at < length rows
    → length rows ≡ at + 1
    → key_cmp (get_or rows at d).0 key ≡ Less → place_of rows key ≡ Err (length rows)
place_behind_last rows at d key s within last less =
    place_of-missing rows key (length rows)
    (record {
      front = rows;
      back = [];
      whole = sym (append-nil rows);
      place = refl;
      before = before_last rows at d key
          s (omega (arith, last)) less;
      past = tt;
    })

-- what a place says where it is a row's
pub found_from_place : (rows : Rows) (key : Key) (at : ℕ) → AreSorted rows → place_of rows key ≡ Ok at
    → IsFound rows key at
found_from_place rows key at s h = by (placed rows key s)
  where
    by : IsPlaced rows key → IsFound rows key at
    by (found other f) =
        let one : Ok other ≡ Ok at = sym (place_of-found rows key other s f) ∙ h in
        let same : other ≡ at = cc in
        rw (← same) f
    by (missing other m) = let one : Err other ≡ Ok at = sym (place_of-missing rows key other m) ∙ h in cc

-- what it says where the key has none
pub missing_from_place : (rows : Rows) (key : Key) (at : ℕ) → AreSorted rows → place_of rows key ≡ Err at
    → IsMissing rows key at
missing_from_place rows key at s h = by (placed rows key s)
  where
    by : IsPlaced rows key → IsMissing rows key at
    by (missing other m) =
        let one : Err other ≡ Err at = sym (place_of-missing rows key other m) ∙ h in
        let same : other ≡ at = cc in
        rw (← same) m
    by (found other f) = let one : Ok other ≡ Err at = sym (place_of-found rows key other s f) ∙ h in cc

-- where a key goes behind all rows they are before it
before_gap : (rows : Rows) (key : Key) → AreSorted rows → place_of rows key ≡ Err (length rows) → AreBefore key rows
before_gap rows key s h = by (missing_from_place rows key (length rows) s h)
  where
    none : (front back : Rows) → length (front ++ back) ≡ length front → back ≡ []
    none front [] e = refl
    none front (row ∷ back) e = absurd (omega (arith, e, length-append front (row ∷ back)))

    by : IsMissing rows key (length rows) → AreBefore key rows
    by m =
        let empty : m.back ≡ [] = none m.front m.back (ap length (sym m.whole) ∙ m.place) in
        let all : rows ≡ m.front = m.whole ∙ rw empty (append-nil m.front) in
        rw all m.before

-- and with its row behind them they stay sorted
pub sorted_with_last : (rows : Rows) (key : Key) (value : Value) → AreSorted rows
    → place_of rows key ≡ Err (length rows) → AreSorted (rows ++ (key, value) ∷ [])
sorted_with_last rows key value s h =
    sorted_join key rows ((key, value) ∷ []) s (before_gap rows key s h) (sorted_more (key, value) [] tt no_rows)
    (λ low greater. (greater_back key low greater, tt))

-- ---- reads at a place

-- the place of a row is one of the rows
pub found_within : (rows : Rows) (key : Key) (at : ℕ) → IsFound rows key at → at < length rows
found_within rows key at f = rw (f.whole, f.place, length-append f.front ((key, f.value) ∷ f.back)) (omega arith)

-- the row at the place of a key
pub row_at_found : (rows : Rows) (key : Key) (at : ℕ) (row : Key × Value) → IsFound rows key at → AreSorted rows
    → value_of rows key ≡ Some (get_or rows at row).1
row_at_found rows key at row f s =
    let split : AreSorted (f.front ++ (key, f.value) ∷ f.back) = rw f.whole at s in
    rw (f.whole, f.place, get_or-append_seam f.front (key, f.value) f.back row)
    (value_of-middle f.front (key, f.value) f.back split)

-- a missing key has no value
pub value_of-missing : (rows : Rows) (key : Key) (at : ℕ) → IsMissing rows key at → value_of rows key ≡ None
value_of-missing rows key at m =
    rw m.whole (value_of-before key m.front m.back m.before ∙ value_of-past key m.back m.past)

-- the rows from a key on are those from its place on
pub rows_from-found : (rows : Rows) (key : Key) (at : ℕ) → IsFound rows key at → AreSorted rows
    → rows_from rows key ≡ drop at rows
rows_from-found rows key at f s =
    let split : AreSorted (f.front ++ (key, f.value) ∷ f.back) = rw f.whole at s in
    rw (f.whole, f.place, drop-append_seam f.front ((key, f.value) ∷ f.back))
    (rows_from-before key f.front ((key, f.value) ∷ f.back) (before_middle f.front (key, f.value) f.back split)
    ∙ rows_from-at key (key, f.value) f.back (key_cmp_itself key) (past_middle f.front (key, f.value) f.back split))

-- and so where it has no row
pub rows_from-missing : (rows : Rows) (key : Key) (at : ℕ) → IsMissing rows key at → rows_from rows key ≡ drop at rows
rows_from-missing rows key at m =
    rw (m.whole, m.place, drop-append_seam m.front m.back) (rows_from-before key m.front m.back m.before
    ∙ rows_from-past key m.back m.past)

-- the rows after a key are those behind its row
pub rows_past-found : (rows : Rows) (key : Key) (at : ℕ) → IsFound rows key at → AreSorted rows
    → rows_past rows key ≡ drop (at + 1) rows
rows_past-found rows key at f s =
    let split : AreSorted (f.front ++ (key, f.value) ∷ f.back) = rw f.whole at s in
    rw (f.whole, f.place, drop-append-add f.front ((key, f.value) ∷ f.back) 1)
    (rows_past-middle f.front (key, f.value) f.back split)

-- and those from its place on where it has none
pub rows_past-missing : (rows : Rows) (key : Key) (at : ℕ) → IsMissing rows key at → rows_past rows key ≡ drop at rows
rows_past-missing rows key at m =
    rw (m.whole, m.place, drop-append_seam m.front m.back) (rows_past-before key m.front m.back m.before
    ∙ rows_past-past key m.back m.past)

-- the rows before a key are those before its place
pub rows_before-found : (rows : Rows) (key : Key) (at : ℕ) → IsFound rows key at → AreSorted rows
    → rows_before rows key ≡ take at rows
rows_before-found rows key at f s =
    let split : AreSorted (f.front ++ (key, f.value) ∷ f.back) = rw f.whole at s in
    rw (f.whole, f.place, take-append_seam f.front ((key, f.value) ∷ f.back))
    (rows_before-before key f.front ((key, f.value) ∷ f.back) (before_middle f.front (key, f.value) f.back split)
    ∙ rw (key_cmp_itself key, rows_before-past key f.back (past_middle f.front (key, f.value) f.back split))
    (append-nil f.front))

-- and so where it has no row
pub rows_before-missing : (rows : Rows) (key : Key) (at : ℕ) → IsMissing rows key at
    → rows_before rows key ≡ take at rows
rows_before-missing rows key at m =
    rw (m.whole, m.place, take-append_seam m.front m.back)
    (rows_before-before key m.front m.back m.before ∙ rw (rows_before-past key m.back m.past) (append-nil m.front))

-- ---- writes at a place

-- a write of a key passes the rows before it
pub with_value-before : (key : Key) (value : Option Value) (before rest : Rows) → AreBefore key before
    → with_value (before ++ rest) key value ≡ before ++ with_value rest key value
with_value-before key None [] rest h = refl
with_value-before key None (row ∷ before) rest h =
    rw h.0 (ap (λ (more : Rows). row ∷ more) (with_value-before key None before rest h.1))
with_value-before key (Some value) [] rest h = refl
with_value-before key (Some value) (row ∷ before) rest h =
    rw h.0 (ap (λ (more : Rows). row ∷ more) (with_value-before key (Some value) before rest h.1))

-- deleting a key that no row has changes nothing
pub delete-past : (key : Key) (rows : Rows) → ArePast key rows → with_value rows key None ≡ rows
delete-past key [] h = refl
delete-past key (row ∷ rows) h = rw h.0 (ap (λ (more : Rows). row ∷ more) (delete-past key rows h.1))

-- a put before all rows
pub put-past : (key : Key) (value : Value) (rows : Rows) → ArePast key rows
    → with_value rows key (Some value) ≡ (key, value) ∷ rows
put-past key value [] h = refl
put-past key value (row ∷ rows) h = rw h.0 refl

-- ---- at the answer of a search

-- the row at a key's place has its value
pub value_at_place : (rows : Rows) (key : Key) (at : ℕ) (row : Key × Value) → AreSorted rows → Ok at ≡ place_of rows key
    → row ≡ get_or rows at row
    → Some row.1 ≡ value_of rows key
value_at_place rows key at row s place is =
    let here : value_of rows key ≡ Some (get_or rows at row).1 =
    row_at_found rows key at row (found_from_place rows key at s (sym place)) s in
    let same : get_or rows at row ≡ row = sym is in
    sym (rw same at here)

-- a key without a place among the rows has no value
pub value_of-no_place : (rows : Rows) (key : Key) (at : ℕ) → AreSorted rows → Err at ≡ place_of rows key
    → None ≡ value_of rows key
value_of-no_place rows key at s place =
    sym (value_of-missing rows key at (missing_from_place rows key at s (sym place)))

-- the rows from a key on stand from its row's place on
pub drop_at_row : (rows : Rows) (key : Key) (at : ℕ) → AreSorted rows → Ok at ≡ place_of rows key
    → drop at rows ≡ rows_from rows key
drop_at_row rows key at s place = sym (rows_from-found rows key at (found_from_place rows key at s (sym place)) s)

-- and from the place where its row would go
pub drop_at_gap : (rows : Rows) (key : Key) (at : ℕ) → AreSorted rows → Err at ≡ place_of rows key
    → drop at rows ≡ rows_from rows key
drop_at_gap rows key at s place = sym (rows_from-missing rows key at (missing_from_place rows key at s (sym place)))

-- the rows after a key stand behind its row
pub drop_past_row : (rows : Rows) (key : Key) (at : ℕ) → AreSorted rows → Ok at ≡ place_of rows key
    → drop (at + 1) rows ≡ rows_past rows key
drop_past_row rows key at s place = sym (rows_past-found rows key at (found_from_place rows key at s (sym place)) s)

-- and from the place where its row would go
pub drop_past_gap : (rows : Rows) (key : Key) (at : ℕ) → AreSorted rows → Err at ≡ place_of rows key
    → drop at rows ≡ rows_past rows key
drop_past_gap rows key at s place = sym (rows_past-missing rows key at (missing_from_place rows key at s (sym place)))

-- the rows before a key stand before its row's place
pub take_at_row : (rows : Rows) (key : Key) (at : ℕ) → AreSorted rows → Ok at ≡ place_of rows key
    → take at rows ≡ rows_before rows key
take_at_row rows key at s place = sym (rows_before-found rows key at (found_from_place rows key at s (sym place)) s)

-- and before the place where its row would go
pub take_at_gap : (rows : Rows) (key : Key) (at : ℕ) → AreSorted rows → Err at ≡ place_of rows key
    → take at rows ≡ rows_before rows key
take_at_gap rows key at s place = sym (rows_before-missing rows key at (missing_from_place rows key at s (sym place)))
