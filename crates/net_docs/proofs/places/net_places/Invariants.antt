use Rattle.std.proofs.Common.{◌≡◌, map, take}
use Rattle.net_docs.specs.NetworkMap.{net_place}
use Rattle.net_docs.proofs.places.net_places.Given as goal

-- the places so far are those of the keys so far
abbrev pub invariant-loop-key : goal.invariant-loop-key
invariant-loop-key l = l.places.items ≡ map (net_place l.net) (take l.key-index l.keys)
