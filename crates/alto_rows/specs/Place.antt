-- The place of a key in sorted rows.
use Rattle.std.specs.Prelude.{ℕ, length, filter, Result, Ok, Err, if◌then◌else◌}
use Rattle.std.specs.Ordering.{is_gt}
use Rattle.alto_rows.specs.declared.key.Key.{Key}
use Rattle.alto_rows.specs.Order.{key_cmp}
use Rattle.alto_rows.specs.Rows.{Rows, has_row}

-- the rows before a key
abbrev pub rows_before : Rows → Key → Rows
rows_before rows key = filter (λ row. is_gt (key_cmp key row.0)) rows

-- the place of the key's row, or, where it has none, the place where it would go
abbrev pub place_of : Rows → Key → Result ℕ ℕ
place_of rows key = if has_row rows key then Ok (length (rows_before rows key)) else Err (length (rows_before rows key))
