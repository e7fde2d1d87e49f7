-- As many doors more are open as the loop has gone round, each just opened, and nothing was counted.
use Rattle.std.proofs.Common.{◌≡◌, ◌+◌, All, length}
use Rattle.alto_doors.specs.Door.{just_opened}
use Rattle.alto_service.proofs.doors.open_side.Given as goal

abbrev pub invariant-loop : goal.invariant-loop
invariant-loop g l = record {
  more : length l.all.items ≡ length l.fn.all.items + l.counter;
  fresh : All (λ one. g.D.Door.Door.state one.door ≡ just_opened) l.all.items;
  same : g.D.Doors.counts l.doors ≡ g.D.Doors.counts l.fn.doors;
}
