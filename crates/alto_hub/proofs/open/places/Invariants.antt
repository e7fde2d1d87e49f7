use Rattle.std.proofs.Common.{◌≡◌, ◌≤◌, length, All}
use Rattle.alto_hub.specs.Seen.{newcomer}
use Rattle.alto_hub.proofs.open.places.Given as goal

-- as many places as the loop has gone round, and nothing was seen from them
abbrev pub invariant-loop : goal.invariant-loop
invariant-loop g l = record {
  count : length l.places.items ≡ l.counter;
  few : l.counter ≤ l.seats;
  new : All (λ place. place ≡ newcomer) l.places.items;
}
