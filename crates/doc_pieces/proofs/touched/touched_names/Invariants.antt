use Rattle.std.proofs.Common.{◌≡◌, take}
use Rattle.alto_maps.specs.Places.{touched_groups}
use Rattle.doc_pieces.proofs.touched.touched_names.Given as goal

-- the names so far are those of the places so far
abbrev pub invariant-loop-place : goal.invariant-loop-place
invariant-loop-place l = l.names.keys ≡ touched_groups (take l.place-index l.places)
