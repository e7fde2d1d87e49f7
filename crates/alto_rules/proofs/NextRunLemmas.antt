-- Runs of the rows from a key on that lead to a later one, and what the first row of one tells of its key.
use Rattle.std.proofs.Common.{◌≡◌, ◌∙◌, ap, refl, sym}
use Rattle.std.specs.Prelude.{Bool, true, false, [], ◌∷◌, ◌++◌, None, Some, slice_get}
use Rattle.std.specs.Ordering.{is_eq, is_gt}
use Rattle.std.specs.declared.cmp.Ordering.{Ordering}
use Rattle.std.specs.declared.cmp.Ordering.TheVariants.{Less, Equal, Greater}
use Rattle.alto_rows.specs.declared.key.Key.{Key}
use Rattle.alto_rows.specs.declared.value.Value.{Value}
use Rattle.alto_rows.specs.Order.{key_cmp}
use Rattle.alto_rows.specs.Rows.{Rows, AreSorted, IsRunOf, has_row, rows_from}
use Rattle.alto_rows.proofs.OrderLemmas.{key_cmp_exact, key_cmp_itself, key_cmp_total}
use Rattle.alto_rows.proofs.RowsLemmas.{greater_back, less_back, past_first, past_lesser, sorted_rest}
use Rattle.alto_rows.proofs.RowsLemmas.{value_of-first, value_of-past}
use Rattle.alto_rows.proofs.RunLemmas.{AreFrom, from_rows_from, rows_from-at, rows_from-past, sorted_rows_from}
use Rattle.alto_rows.proofs.RunLemmas.{value_of-rows_from}

-- ---- the rows from a later key on

-- sorted rows of which the first isn't before a key are all from it on
from_first : (key : Key) (row : Key × Value) (rows : Rows) → AreSorted (row ∷ rows) → is_gt (key_cmp key row.0) ≡ false
    → rows_from (row ∷ rows) key ≡ row ∷ rows
from_first key row rows s e = by (key_cmp key row.0) refl
  where
    by : (o : Ordering) → key_cmp key row.0 ≡ o → rows_from (row ∷ rows) key ≡ row ∷ rows
    by Less f = rows_from-past key (row ∷ rows) (f, past_lesser key row.0 f rows (past_first row rows s))
    by Equal f =
        let same : key ≡ row.0 = key_cmp_exact key row.0 f in
        rows_from-at key row rows f (rw same (past_first row rows s))
    by Greater f = cc

-- a key that isn't before one that a row is before, is behind that row
passed : (low high : Key) (row : Key × Value) → is_gt (key_cmp low high) ≡ false → key_cmp low row.0 ≡ Greater
    → key_cmp high row.0 ≡ Greater
passed low high row e past = by (key_cmp low high) refl
  where
    back : key_cmp row.0 low ≡ Less
    back = greater_back low row.0 past

    by : (o : Ordering) → key_cmp low high ≡ o → key_cmp high row.0 ≡ Greater
    by Less f = less_back row.0 high (key_cmp_total.trans row.0 low high back f)
    by Equal f = let same : low ≡ high = key_cmp_exact low high f in rw (← same) past
    by Greater f = cc

-- the rows from a key on, among those from an earlier one on
later_from : (low high : Key) → is_gt (key_cmp low high) ≡ false → (rows : Rows)
    → rows_from (rows_from rows low) high ≡ rows_from rows high
later_from low high e [] = refl
later_from low high e (row ∷ rows) =
    by (later_from low high e rows) (key_cmp low row.0) (is_gt (key_cmp high row.0)) refl refl
  where
    kept : rows_from (rows_from rows low) high ≡ rows_from rows high → (b : Bool) → is_gt (key_cmp high row.0) ≡ b
        → rows_from (row ∷ rows_from rows low) high ≡ rows_from (row ∷ rows) high
    kept below true f = rw f below
    kept below false f = rw f (ap (λ (more : Rows). row ∷ more) below)

    by : rows_from (rows_from rows low) high ≡ rows_from rows high → (o : Ordering) (b : Bool) → key_cmp low row.0 ≡ o
        → is_gt (key_cmp high row.0) ≡ b → rows_from (rows_from (row ∷ rows) low) high ≡ rows_from (row ∷ rows) high
    by below Less b f g = rw f (kept below b g)
    by below Equal b f g = rw f (kept below b g)
    by below Greater b f g =
        let behind : key_cmp high row.0 ≡ Greater = passed low high row e f in
        rw (f, behind) below

-- ---- a run that leads on

module _ (rows run : Rows) (low key : Key) (s : AreSorted rows) (r : IsRunOf (rows_from rows low) run)
    (after : is_gt (key_cmp low key) ≡ false) where
  -- the rows from the key on
  from_here : rows_from rows key ≡ rows_from (run ++ r.rest) key
  from_here = sym (later_from low key after rows) ∙ ap (λ (all : Rows). rows_from all key) r.whole

  sorted_run : AreSorted (run ++ r.rest)
  sorted_run = rw r.whole at (sorted_rows_from rows low s)

-- the key isn't behind the first row
pub moved_here : (rows run : Rows) (low key : Key) (row : Key × Value) (rest : Rows) → AreSorted rows
    → IsRunOf (rows_from rows low) run → run ≡ row ∷ rest → is_gt (key_cmp low key) ≡ false
    → is_gt (key_cmp key row.0) ≡ false → IsRunOf (rows_from rows key) run
moved_here rows run low key row rest s r is after within =
    let sorted : AreSorted (row ∷ (rest ++ r.rest)) = rw is at (sorted_run rows run low key s r after) in
    record {
      rest = r.rest;
      whole = from_here rows run low key s r after ∙ rw is (from_first key row (rest ++ r.rest) sorted within);
      some = λ none. let both : row ∷ rest ≡ [] = sym is ∙ none in cc;
    }

-- or it is, and it isn't behind the second
pub moved_on : (rows run : Rows) (low key : Key) (row next : Key × Value) (behind rest : Rows) → AreSorted rows
    → IsRunOf (rows_from rows low) run → run ≡ row ∷ behind → behind ≡ next ∷ rest → is_gt (key_cmp low key) ≡ false
    → is_gt (key_cmp key row.0) ≡ true → is_gt (key_cmp key next.0) ≡ false → IsRunOf (rows_from rows key) behind
moved_on rows run low key row next behind rest s r is more after past within =
    let all = next ∷ (rest ++ r.rest) in
    let sorted : AreSorted (row ∷ all) = rw (is, more) at (sorted_run rows run low key s r after) in
    record {
      rest = r.rest;
      whole =
          from_here rows run low key s r after
          ∙ rw (is, more, past) (from_first key next (rest ++ r.rest) (sorted_rest row all sorted) within);
      some = λ none. let both : next ∷ rest ≡ [] = sym more ∙ none in cc;
    }

-- ---- what the first row tells

-- among rows from a key on the first is the key's, or the key has none
first_tells : (key : Key) (row : Key × Value) (rows : Rows) → AreSorted (row ∷ rows) → is_gt (key_cmp key row.0) ≡ false
    → is_eq (key_cmp key row.0) ≡ has_row (row ∷ rows) key
first_tells key row rows s from = by (key_cmp key row.0) refl
  where
    by : (o : Ordering) → key_cmp key row.0 ≡ o → is_eq (key_cmp key row.0) ≡ has_row (row ∷ rows) key
    by Equal e = rw (value_of-first key row rows e, e) refl
    by Less e = rw (value_of-past key (row ∷ rows) (e, past_lesser key row.0 e rows (past_first row rows s)), e) refl
    by Greater e = cc

-- the rows from a key on tell whether it has a row
told_from : (rows : Rows) (key : Key) → has_row (rows_from rows key) key ≡ has_row rows key
told_from rows key = rw (value_of-rows_from rows key key, key_cmp_itself key) refl

-- so does the first of a run of them
pub told_by : (rows run : Rows) (key : Key) (row : Key × Value) → AreSorted rows → IsRunOf (rows_from rows key) run
    → Some row ≡ slice_get run 0 → is_eq (key_cmp key row.0) ≡ has_row rows key
told_by rows [] key row s r is = cc
told_by rows (first ∷ rest) key row s r is =
    let same : row ≡ first = cc in
    let whole : rows_from rows key ≡ first ∷ (rest ++ r.rest) = r.whole in
    let sorted : AreSorted (first ∷ (rest ++ r.rest)) = rw whole at (sorted_rows_from rows key s) in
    let from : AreFrom key (first ∷ (rest ++ r.rest)) = rw whole at (from_rows_from rows key) in
    rw same (first_tells key first (rest ++ r.rest) sorted from.0)
    ∙ ap (λ (all : Rows). has_row all key) (sym whole) ∙ told_from rows key

-- and a run without rows
pub told_by_none : (rows run : Rows) (key : Key) → IsRunOf (rows_from rows key) run → None ≡ slice_get run 0
    → false ≡ has_row rows key
told_by_none rows [] key r is = rw (r.some refl) at (told_from rows key)
told_by_none rows (first ∷ rest) key r is = cc
