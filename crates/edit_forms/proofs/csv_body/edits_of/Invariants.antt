-- Whatever the records that are left read as, all read as the edits so far and that.
use Rattle.std.proofs.Common.{◌+◌, All, length, vec_len}
use Rattle.alto_edits.specs.Edits.{IsEdit}
use Rattle.edit_forms.proofs.EditLemmas.{GoesOn}
use Rattle.edit_forms.proofs.csv_body.edits_of.Given as goal

abbrev pub invariant-loop-at_hand : goal.invariant-loop-at_hand
invariant-loop-at_hand l = record {
  on : GoesOn l.fn.records l.edits.items (vec_len l.edits + 1) l.records;
  edits : All IsEdit l.edits.items;
}

abbrev pub decreases-loop-at_hand : goal.decreases-loop-at_hand
decreases-loop-at_hand l = length l.records
