-- Changes that a cut divides: which fall to a block, and which to the blocks behind it.
use Rattle.std.specs.Prelude.{not, List, [], ◌∷◌, filter}
use Rattle.std.specs.Ordering.{is_gt}
use Rattle.alto_rows.specs.Changes.{Changes}
use Rattle.alto_rows.specs.Order.{key_cmp}
use Rattle.row_chunks.specs.declared.cut.Cut.{Cut}
use Rattle.row_chunks.specs.Blocks.{Placed}
use Rattle.row_chunks.specs.Cut.{keeps}

-- the changes before a cut
abbrev pub changes_before : Cut → Changes → Changes
changes_before cut changes = filter (λ change. not (keeps cut change.0)) changes

-- the changes behind a cut
abbrev pub changes_behind : Cut → Changes → Changes
changes_behind cut changes = filter (λ change. keeps cut change.0) changes

-- the changes before the first of the later blocks, all where there is none
abbrev pub own_changes : List Placed → Changes → Changes
own_changes [] changes = changes
own_changes (slot ∷ slots) changes = filter (λ change. is_gt (key_cmp slot.first change.0)) changes

-- the changes from the first of the later blocks on
abbrev pub later_changes : List Placed → Changes → Changes
later_changes [] changes = []
later_changes (slot ∷ slots) changes = filter (λ change. not (is_gt (key_cmp slot.first change.0))) changes
