-- Whatever the items that are left read as, all read as the edits so far and that.
use Rattle.std.proofs.Common.{All}
use Rattle.alto_edits.specs.Edits.{IsEdit}
use Rattle.edit_forms.proofs.ItemLemmas.{ItemsGoOn}
use Rattle.edit_forms.proofs.json_body.edits_of.Given as goal

abbrev pub invariant-loop-place : goal.invariant-loop-place
invariant-loop-place l = record {
  on : ItemsGoOn l.fn.items l.edits.items l.place;
  edits : All IsEdit l.edits.items;
}
