use Rattle.std.proofs.Common.{◌≡◌, map, take}
use Rattle.prop_docs.specs.PropertyMap.{prop_place}
use Rattle.prop_docs.proofs.places.prop_places.Given as goal

-- the places so far are those of the keys so far
abbrev pub invariant-loop-key : goal.invariant-loop-key
invariant-loop-key l = l.places.items ≡ map (prop_place l.net) (take l.key-index l.keys)
