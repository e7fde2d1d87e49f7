-- There are as many places as doors left, and each worker that was made has a door that was just opened.
use Rattle.std.proofs.Common.{◌≡◌, ◌+◌, All, length}
use Rattle.alto_doors.specs.Door.{just_opened}
use Rattle.alto_service.proofs.serving.workers_of.Given as goal

abbrev pub invariant-loop-one : goal.invariant-loop-one
invariant-loop-one g l = record {
  even : length l.places.items ≡ length l.one-iterator.rest.items;
  made : length l.workers.items + length l.one-iterator.rest.items ≡ length l.fn.all.items;
  left : All (λ one. g.E.Door.state one.door ≡ just_opened) l.one-iterator.rest.items;
  fresh : All (λ worker. g.E.Door.state worker.door ≡ just_opened) l.workers.items;
}
