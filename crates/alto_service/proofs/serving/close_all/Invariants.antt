-- The doors that are left were served to their ends, and those that were closed are counted.
use Rattle.std.proofs.Common.{◌≡◌, ◌+◌, All, length, true, ℕ}
use Rattle.alto_doors.specs.Door.{is_served, risen}
use Rattle.alto_service.proofs.serving.close_all.Given as goal

abbrev pub invariant-loop-worker : goal.invariant-loop-worker
invariant-loop-worker g l = record {
  ended : All (λ worker. is_served (g.D.Door.Door.state worker.door) ≡ true) l.worker-iterator.rest.items;
  counted : (closed : ℕ) × (closed + length l.worker-iterator.rest.items ≡ length l.fn.workers.items)
      × ((g.D.Doors.counts l.doors).served ≡ risen (g.D.Doors.counts l.fn.doors).served closed);
}
