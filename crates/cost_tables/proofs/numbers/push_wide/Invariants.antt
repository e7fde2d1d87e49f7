use Rattle.std.proofs.Common.{◌≡◌, ◌++◌, map, slice_get, take}
use Rattle.cost_tables.proofs.numbers.push_wide.Given as goal

abbrev pub invariant-loop-place : goal.invariant-loop-place
invariant-loop-place l =
    l.found.items ≡ l.initial.found.items ++ map (slice_get l.numbers) (take l.place-index l.places)
