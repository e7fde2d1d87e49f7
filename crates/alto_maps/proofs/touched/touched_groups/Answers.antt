use Rattle.std.proofs.Common.{◌∙◌, ap, sym}
use Rattle.alto_maps.specs.Touched.{parts_of}
use Rattle.alto_maps.proofs.TouchedLemmas.{none_so_far}
use Rattle.alto_maps.proofs.touched.touched_groups.Goals as goal

pub loop-place-init : goal.loop-place-init
loop-place-init c = ap parts_of c.new-groups.ensures.empty ∙ sym none_so_far
