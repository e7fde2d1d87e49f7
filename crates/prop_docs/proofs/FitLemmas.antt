-- Each of good rows fits its key.
use Rattle.std.proofs.Common.{◌≡◌, refl, sym, ◌∙◌, append_assoc}
use Rattle.std.specs.Prelude.{[], ◌∷◌, ◌++◌, Some}
use Rattle.std.specs.List.{AllByRecursion}
use Rattle.alto_rows.specs.declared.key.Key.{Key}
use Rattle.alto_rows.specs.declared.value.Value.{Value}
use Rattle.alto_rows.specs.Good.{AreGood, Fits}
use Rattle.alto_rows.specs.Rows.{Rows, value_of}
use Rattle.alto_rows.proofs.RowsLemmas.{value_of_row}

-- each row of these fits its key
abbrev pub AllFit : Rows → Type 0
AllFit rows = AllByRecursion (λ (row : Key × Value). Fits row.0 row.1) rows

-- a row of good rows fits its key
row_fits : (rows : Rows) → AreGood rows → (front back : Rows) (at : Key) (v : Value)
    → rows ≡ front ++ (at, v) ∷ back → Fits at v
row_fits rows good front back at v whole =
    let is : value_of rows at ≡ Some v =
    value_of_row rows at v good.sorted (record { front = front; back = back; whole = whole }) in
    rw is at (good.fit at)

-- so do those behind some of them
rest_fit : (rows : Rows) → AreGood rows → (front back : Rows) → rows ≡ front ++ back → AllFit back
rest_fit rows good front [] whole = tt
rest_fit rows good front (row ∷ back) whole = (
  row_fits rows good front back row.0 row.1 whole,
  rest_fit rows good (front ++ row ∷ []) back (whole
      ∙ sym (append_assoc front (row ∷ []) back)),
)

-- each of good rows fits its key
pub good_fit : (rows : Rows) → AreGood rows → AllFit rows
good_fit rows good = rest_fit rows good [] rows refl
