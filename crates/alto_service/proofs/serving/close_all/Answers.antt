use Rattle.std.proofs.Common.{◌≡◌, ◌+◌, length, rules, arith, suc, true}
use Rattle.alto_doors.specs.Door.{is_served}
use Rattle.alto_service.proofs.CountLemmas.{all_parted, closed_served}
use Rattle.alto_service.proofs.serving.close_all.Goals as goal

pub loop-worker-preserved : goal.loop-worker-preserved
loop-worker-preserved g c =
    let parts = all_parted c.in-Some.ensures.steps.0 (λ worker. is_served (g.D.Door.Door.state worker.door) ≡ true)
    c.loop-worker.invariant.ended in
    let n = c.loop-worker.invariant.counted.0 in
    let all : suc n + length c.next.new.self.rest.items ≡ length c.args.workers.items = search (rules, arith) in
    record {
      ended = parts.1;
      counted = (
        suc n,
        all,
        closed_served (g.D.Door.Door.state c.in-Some.worker.door) (g.D.Doors.counts c.args.doors.now).served
            (g.D.Doors.counts c.loop-worker.doors) (g.D.Doors.counts c.close.new.self) n
            parts.0 c.loop-worker.invariant.counted.2 c.close.ensures.counted,
      );
    }
