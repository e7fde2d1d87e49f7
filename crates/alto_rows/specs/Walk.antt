-- A walk over sorted rows, run by run.
use Rattle.std.specs.Prelude.{◌≡◌, [], ◌∷◌, ◌++◌}
use Rattle.alto_rows.specs.Rows.{Rows, AreSorted, IsRunOf, rows_past}

-- the rows that a walk has left: the first row of its run and the rows after that
abbrev pub rows_left : Rows → Rows → Rows
rows_left rows [] = []
rows_left rows (row ∷ run) = row ∷ rows_past rows row.0

-- the run of a walk begins what it has left, and is empty only at the end
pub record IsWalking (rows run : Rows) : Type 0 where
  pub sorted : AreSorted rows
  pub begins : IsRunOf (rows_left rows run) run

-- all begins with the run
pub record Begins (all run : Rows) : Type 0 where
  pub rest : Rows
  pub whole : all ≡ run ++ rest
