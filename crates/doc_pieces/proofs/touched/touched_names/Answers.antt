use Rattle.std.proofs.Common.{◌∙◌, sym}
use Rattle.doc_pieces.proofs.PlaceLemmas.{none_touched}
use Rattle.doc_pieces.proofs.touched.touched_names.Goals as goal

pub loop-place-init : goal.loop-place-init
loop-place-init c = c.new-names.ensures.empty ∙ sym none_touched
