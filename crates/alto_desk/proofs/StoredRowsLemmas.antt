-- The rows that a base stores: those of good rows can be stored, and they are the rows behind the epoch and the window.
use Rattle.std.proofs.Common.{◌≡◌, ℕ, ◌≤◌, List, [], ◌∷◌, ◌++◌, length, All, refl, ap, sym, ◌∙◌, append_assoc, arith}
use Rattle.std.specs.Prelude.{Bool, true, false, cond, not, filter, Option, Some, None}
use Rattle.std.specs.List.{AllByRecursion}
use Rattle.std.specs.Map.{keys_of}
use Rattle.std.specs.declared.cmp.Ordering.TheVariants.{Less, Greater}
use Rattle.std.proofs.lemmas.List.Elements.{All-append, All-from_recursion, filter-append, recursion_from_All}
use Rattle.std.proofs.lemmas.List.Kept.{IsStrictlySortedBy-filter}
use Rattle.std.proofs.lemmas.List.Sums.{count_by-le-length, length-filter}
use Rattle.alto_rows.specs.Accepted.{Accepted}
use Rattle.alto_rows.specs.declared.key.Key.{Key}
use Rattle.alto_rows.specs.declared.key.Key.TheVariants as key
use Rattle.alto_rows.specs.declared.value.Value.{Value}
use Rattle.alto_rows.specs.declared.value.Value.TheVariants as value
use Rattle.alto_rows.specs.declared.write.Write.{Write}
use Rattle.alto_rows.specs.Good.{AreGood, Fits, Takes}
use Rattle.alto_rows.specs.Order.{key_cmp, kind_of}
use Rattle.alto_rows.specs.Rows.{Rows, AreSorted, after, with_value}
use Rattle.alto_rows.proofs.RowsLemmas.{ArePast, IsRow, less_back, past_first, sorted_rest, value_of_row}
use Rattle.alto_book.specs.Book.{opening_rows, writes_in}
use Rattle.base_code.specs.Bases.{AreStored, write_of}
use Rattle.batch_code.specs.Storable.{IsStorable, IsStored, TakesChange}
use Rattle.alto_desk.specs.Trim.{is_opening}
use Rattle.alto_desk.proofs.KeepsLemmas.{epoch_before, window_before}

-- the rows of others than the epoch and the window
abbrev pub behind : Rows → Rows
behind rows = filter (λ row. not (is_opening row.0)) rows

-- ---- they can be stored

kind_behind : (at : Key) → is_opening at ≡ false → 3 ≤ kind_of at
kind_behind key.Epoch h = cc
kind_behind key.Window h = cc
kind_behind _ h = omega arith

takes_put : (at : Key) (v : Value) → Takes at v → TakesChange at (Some v)
takes_put (key.Seq of) v takes = takes
takes_put _ v takes = takes

-- a row of good rows fits
row_fits : (rows : Rows) (at : Key) (v : Value) → AreGood rows → IsRow rows at v → Fits at v
row_fits rows at v good row = rw (value_of_row rows at v good.sorted row) at (good.fit at)

each_fits : (rows front back : Rows) → AreGood rows → rows ≡ front ++ back
    → AllByRecursion (λ row. Fits row.0 row.1) back
each_fits rows front [] good whole = tt
each_fits rows front (row ∷ back) good whole = (
  row_fits rows row.0 row.1 good (record { front = front; back = back; whole = whole }),
  each_fits rows (front ++ row ∷ []) back good (whole ∙ sym (append_assoc front (row ∷ []) back)),
)

each_stored : (rows : Rows) → AllByRecursion (λ row. Fits row.0 row.1) rows
    → AllByRecursion (λ row. IsStored (write_of row)) (behind rows)
each_stored [] fits = tt
each_stored (row ∷ rows) fits = by (is_opening row.0) refl (each_stored rows fits.1)
  where
    by : (b : Bool) → is_opening row.0 ≡ b → AllByRecursion (λ row. IsStored (write_of row)) (behind rows)
        → AllByRecursion (λ row. IsStored (write_of row)) (cond (not b) (row ∷ behind rows) (behind rows))
    by true e below = below
    by false e below =
        (record { stored = kind_behind row.0 e; is_key = fits.0.0; takes = takes_put row.0 row.1 fits.0.1 }, below)

keys_of-behind : (rows : Rows) → keys_of (behind rows) ≡ filter (λ at. not (is_opening at)) (keys_of rows)
keys_of-behind [] = refl
keys_of-behind (row ∷ rows) = by (is_opening row.0) (keys_of-behind rows)
  where
    by : (b : Bool) → keys_of (behind rows) ≡ filter (λ at. not (is_opening at)) (keys_of rows)
        → keys_of (cond (not b) (row ∷ behind rows) (behind rows))
        ≡ cond (not b) (row.0 ∷ filter (λ at. not (is_opening at)) (keys_of rows))
        (filter (λ at. not (is_opening at)) (keys_of rows))
    by true below = below
    by false below = ap (λ (keys : List Key). row.0 ∷ keys) below

sorted_behind_opening : (rows : Rows) → AreSorted rows → AreSorted (behind rows)
sorted_behind_opening rows sorted =
    rw (keys_of-behind rows) (IsStrictlySortedBy-filter key_cmp (λ at. not (is_opening at)) (keys_of rows) sorted)

-- what a base stores of good rows can be stored
pub good_stored : (rows : Rows) → AreGood rows → AreStored (behind rows)
good_stored rows good = record {
  sorted = sorted_behind_opening rows good.sorted;
  each = All-from_recursion (λ (row : Key × Value). IsStored (write_of row)) (behind rows)
      (each_stored rows (each_fits rows [] rows good refl));
}

-- they are no more
pub few_behind : (rows : Rows) (most : ℕ) → length rows ≤ most → length (behind rows) ≤ most
few_behind rows most few =
    omega (
      arith,
      few,
      length-filter (λ (row : Key × Value). not (is_opening row.0)) rows,
      count_by-le-length (λ (row : Key × Value). not (is_opening row.0)) rows,
    )

-- ---- they are those behind the epoch and the window

behind_window : (at : Key) → key_cmp key.Window at ≡ Less → is_opening at ≡ false
unfolding key_cmp
behind_window key.Epoch h = cc
behind_window key.Window h = cc
behind_window _ h = refl

all_behind : (rows : Rows) → ArePast key.Window rows → behind rows ≡ rows
all_behind [] past = refl
all_behind (row ∷ rows) past =
    rw (behind_window row.0 past.0) (ap (λ (more : Rows). row ∷ more) (all_behind rows past.1))

pub behind-opening : (epoch : List ℕ) (window : ℕ) (rows : Rows) → AreSorted (opening_rows epoch window ++ rows)
    → behind (opening_rows epoch window ++ rows) ≡ rows
behind-opening epoch window rows sorted =
    let first : Key × Value = (key.Epoch, value.Text epoch) in
    let second : Key × Value = (key.Window, value.Num window) in
    all_behind rows (past_first second rows (sorted_rest first (second ∷ rows) sorted))

-- ---- rows that are gone through

-- the rows that are there and those that a base stores of the rest, with one row more
pub behind_next : (stored next rest more rows : Rows) (row : Key × Value) → stored ++ behind rest ≡ behind rows
    → rest ≡ row ∷ more
    → next ≡ stored ++ behind (row ∷ []) → next ++ behind more ≡ behind rows
behind_next stored next rest more rows row so_far step pushed =
    ap (λ (all : Rows). all ++ behind more) pushed
    ∙ (append_assoc stored (behind (row ∷ [])) (behind more)
    ∙ (ap (λ (all : Rows). stored ++ all)
    (sym (filter-append (λ (row : Key × Value). not (is_opening row.0)) (row ∷ []) more))
    ∙ (ap (λ (all : Rows). stored ++ behind all) (sym step) ∙ so_far)))

-- ---- batches leave the epoch and the window

with_behind : (first : Key × Value) (rows : Rows) (at : Key) (v : Option Value) → key_cmp at first.0 ≡ Greater
    → with_value (first ∷ rows) at v ≡ first ∷ with_value rows at v
with_behind first rows at None h = rw h refl
with_behind first rows at (Some v) h = rw h refl

after_behind : (first : Key × Value) (rows : Rows) (writes : List Write)
    → AllByRecursion (λ write. key_cmp write.key first.0 ≡ Greater) writes
    → after (first ∷ rows) writes ≡ first ∷ after rows writes
after_behind first rows [] all = refl
after_behind first rows (write ∷ writes) all =
    ap (λ (more : Rows). after more writes) (with_behind first rows write.key write.value all.0)
    ∙ after_behind first (with_value rows write.key write.value) writes all.1

behind_first : (low : Key) → ((at : Key) → 3 ≤ kind_of at → key_cmp low at ≡ Less) → (writes : List Write)
    → AllByRecursion IsStored writes
    → AllByRecursion (λ write. key_cmp write.key low ≡ Greater) writes
behind_first low before [] all = tt
behind_first low before (write ∷ writes) all =
    (less_back low write.key (before write.key all.0.stored), behind_first low before writes all.1)

all_writes : (batches : List Accepted) → AllByRecursion IsStorable batches → All IsStored (writes_in batches)
all_writes [] all = All-from_recursion IsStored [] tt
all_writes (batch ∷ batches) all =
    All-append IsStored batch.writes (writes_in batches) all.0.writes (all_writes batches all.1)

-- so their writes change the rows behind them alone
pub after_opening : (epoch : List ℕ) (window : ℕ) (rows : Rows) (batches : List Accepted) → All IsStorable batches
    → after (opening_rows epoch window ++ rows) (writes_in batches) ≡ opening_rows epoch window
    ++ after rows (writes_in batches)
after_opening epoch window rows batches storable =
    let first : Key × Value = (key.Epoch, value.Text epoch) in
    let second : Key × Value = (key.Window, value.Num window) in
    let writes = writes_in batches in
    let all = recursion_from_All IsStored
    writes (all_writes batches (recursion_from_All IsStorable batches storable)) in
    after_behind first (second ∷ rows) writes (behind_first key.Epoch epoch_before writes all)
    ∙ ap (λ (more : Rows). first ∷ more)
    (after_behind second rows writes (behind_first key.Window window_before writes all))
