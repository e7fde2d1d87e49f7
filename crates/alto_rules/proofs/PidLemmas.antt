-- Some of the rows of a store: a run of them, those behind the first, and the first.
use Rattle.std.proofs.Common.{◌≡◌, refl, ap, sym, ◌∙◌}
use Rattle.std.specs.Prelude.{ℕ, List, Bool, true, false, not, cond, [], ◌∷◌, ◌++◌, Some, None, is_some, slice_get}
use Rattle.std.specs.Ordering.{is_eq, is_gt}
use Rattle.alto_rows.specs.declared.key.Key.{Key}
use Rattle.alto_rows.specs.declared.key.Key.TheVariants as keys
use Rattle.alto_rows.specs.declared.value.Value.{Value}
use Rattle.alto_rows.specs.Order.{key_cmp}
use Rattle.alto_rows.specs.Rows.{Rows, IsRunOf, has_row, rows_from, value_of}
use Rattle.alto_rows.proofs.OrderLemmas.{key_cmp_itself}
use Rattle.alto_rows.proofs.RunLemmas.{value_of-rows_from}
use Rattle.alto_rules.specs.Kept.{HasAll}

-- a key with a row has one where there is a row more
has_behind : (row : Key × Value) (rows : Rows) (at : Key) → has_row rows at ≡ true → has_row (row ∷ rows) at ≡ true
has_behind row rows at h = by (is_eq (key_cmp at row.0)) refl
  where
    by : (b : Bool) → is_eq (key_cmp at row.0) ≡ b → has_row (row ∷ rows) at ≡ true
    by true e = rw e refl
    by false e = rw e h

-- and where there are rows behind
has_front : (front back : Rows) (at : Key) → has_row front at ≡ true → has_row (front ++ back) at ≡ true
has_front [] back at h = cc
has_front (row ∷ front) back at h = by (has_front front back at) (is_eq (key_cmp at row.0)) refl
  where
    by : (has_row front at ≡ true → has_row (front ++ back) at ≡ true) → (b : Bool) → is_eq (key_cmp at row.0) ≡ b
        → has_row (row ∷ (front ++ back)) at ≡ true
    by below true e = rw e refl
    by below false e = rw e (below (rw e at h))

-- a key with a row among those from a key on has one
has_from : (rows : Rows) (key at : Key) → has_row (rows_from rows key) at ≡ true → has_row rows at ≡ true
has_from rows key at h =
    by (not (is_gt (key_cmp key at))) (sym (ap is_some (value_of-rows_from rows key at)) ∙ h)
  where
    by : (b : Bool) → is_some (cond b (value_of rows at) None) ≡ true → has_row rows at ≡ true
    by true e = e
    by false e = cc

-- a run of the rows from a key on is of the rows
pub run_of_all : (rows run : Rows) (key : Key) → IsRunOf (rows_from rows key) run → HasAll rows run
run_of_all rows run key r at h = has_from rows key at (rw r.whole (has_front run r.rest at h))

-- so are the rows behind the first of some
pub all_behind : (rows known behind : Rows) (row : Key × Value) → known ≡ row ∷ behind → HasAll rows known
    → HasAll rows behind
all_behind rows known behind row is all at h = all at (rw is (has_behind row behind at h))

-- keys of PIDs with the same names are one
pub same_pid : {net other pid same : List ℕ} → net ≡ other → pid ≡ same → keys.Pid net pid ≡ keys.Pid other same
same_pid n p = rw (n, p) refl

-- the first of some rows is there
pub first_there : (rows : Rows) (row : Key × Value) (at : Key) → Some row ≡ slice_get rows 0 → row.0 ≡ at
    → has_row rows at ≡ true
first_there [] row at is same = cc
first_there (first ∷ rest) row at is same =
    let one : row ≡ first = cc in
    rw (← same, one, key_cmp_itself first.0) refl
