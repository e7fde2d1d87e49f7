use Rattle.std.proofs.Common.{◌≡◌, map, take}
use Rattle.cost_docs.specs.CostMap.{cost_place}
use Rattle.cost_docs.proofs.places.cost_places.Given as goal

-- the places so far are those of the keys so far
abbrev pub invariant-loop-key : goal.invariant-loop-key
invariant-loop-key l = l.places.items ≡ map (cost_place l.net l.metric) (take l.key-index l.keys)
