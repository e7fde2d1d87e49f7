-- The names so far, then the parts of what is left, are all parts.
use Rattle.std.proofs.Common.{◌≡◌, ◌≤◌, ◌++◌, All, length}
use Rattle.alto_names.specs.Name.{IsAneName}
use Rattle.edit_forms.specs.Columns.{spaced}
use Rattle.edit_forms.proofs.AneLemmas.{parts_left}
use Rattle.edit_forms.proofs.anes.anes_in.Given as goal

abbrev pub invariant-loop-left : goal.invariant-loop-left
invariant-loop-left l = record {
  parts : spaced l.text ≡ l.names.items ++ parts_left l.left;
  names : All IsAneName l.names.items;
  few : length l.names.items ≤ 64;
}

abbrev pub decreases-loop-left : goal.decreases-loop-left
decreases-loop-left l = length (parts_left l.left)
