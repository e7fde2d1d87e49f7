-- A walk has left what its run begins, from run to run.
use Rattle.std.proofs.Common.{◌≡◌, refl, sym}
use Rattle.std.specs.Prelude.{[], ◌∷◌, ◌++◌}
use Rattle.alto_rows.specs.declared.key.Key.{Key}
use Rattle.alto_rows.specs.declared.value.Value.{Value}
use Rattle.alto_rows.specs.Rows.{Rows, AreSorted, IsRunOf, rows_past}
use Rattle.alto_rows.specs.Walk.{rows_left, IsWalking, Begins}
use Rattle.alto_rows.proofs.RunLemmas.{IsTail, rows_past_tail, rows_past_run}

-- a run of the last rows leaves those
pub left_in_run : (rows tail run : Rows) → AreSorted rows → IsTail rows tail → IsRunOf tail run
    → rows_left rows run ≡ tail
left_in_run rows tail [] s t r = sym (r.some refl)
left_in_run rows tail (row ∷ run) s t r =
    rw (rows_past_run rows tail [] row (run ++ r.rest) s t r.whole) (sym r.whole)

-- and is where a walk may be
pub walking_in_run : (rows tail run : Rows) → AreSorted rows → IsTail rows tail → IsRunOf tail run → IsWalking rows run
walking_in_run rows tail run s t r = record { sorted = s; begins = rw (left_in_run rows tail run s t r) r }

-- behind the first row of a walk's run the rest of the run comes first
pub begins_behind : (rows run : Rows) (row : Key × Value) (rest : Rows) → IsWalking rows run → run ≡ row ∷ rest
    → Begins (rows_past rows row.0) rest
begins_behind rows run row rest w same =
    let all : row ∷ rows_past rows row.0 ≡ row ∷ (rest ++ w.begins.rest) = rw same at w.begins.whole in
    record { rest = w.begins.rest; whole = cc }

-- a run that isn't empty is a run of what it begins
pub run_that_begins : (all run : Rows) → (run ≡ [] → ⊥) → Begins all run → IsRunOf all run
run_that_begins all run some b = record { rest = b.rest; whole = b.whole; some = λ none. absurd (some none) }

-- a walk goes on behind the first row of its run
pub walking_behind : (rows run : Rows) (row : Key × Value) → IsWalking rows run → IsRunOf (rows_past rows row.0) run
    → IsWalking rows run
walking_behind rows run row w r =
    walking_in_run rows (rows_past rows row.0) run w.sorted (rows_past_tail rows row.0 w.sorted) r
