-- The doors that are left were just opened, and nothing was counted.
use Rattle.std.proofs.Common.{◌≡◌, All}
use Rattle.alto_doors.specs.Door.{just_opened}
use Rattle.alto_service.proofs.doors.close_unused.Given as goal

abbrev pub invariant-loop-one : goal.invariant-loop-one
invariant-loop-one g l = record {
  fresh : All (λ one. g.D.Door.Door.state one.door ≡ just_opened) l.one-iterator.rest.items;
  same : g.D.Doors.counts l.doors ≡ g.D.Doors.counts l.fn.doors;
}
