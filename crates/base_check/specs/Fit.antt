-- Rows that are good but for what they name, who has their prefixes, and their versions.
use Rattle.std.specs.Prelude.{◌≡◌, true, IfSome}
use Rattle.alto_rows.specs.declared.key.Key.{Key}
use Rattle.alto_rows.specs.declared.key.Key.TheVariants as key
use Rattle.alto_rows.specs.Good.{Fits}
use Rattle.alto_rows.specs.Rows.{Rows, AreSorted, value_of, has_row}

-- rows that are sorted and whose values fit their keys, with an epoch and a window
pub record AreFit (rows : Rows) : Type 0 where
  pub sorted : AreSorted rows
  pub fit : (at : Key) → IfSome (value_of rows at) (Fits at)
  pub epoch : has_row rows key.Epoch ≡ true
  pub window : has_row rows key.Window ≡ true
