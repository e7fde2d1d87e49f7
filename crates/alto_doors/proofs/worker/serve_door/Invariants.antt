use Rattle.std.proofs.Common.{◌≡◌, ◌<◌, false}
use Rattle.alto_answers.specs.Answers.{client_of}
use Rattle.alto_serve.specs.Events.{IsGrown}
use Rattle.alto_serve.specs.Turns.{setting_of}
use Rattle.alto_doors.specs.Door.{risen}
use Rattle.alto_doors.specs.Workers.{HasServed}
use Rattle.alto_doors.proofs.worker.serve_door.Given as goal

-- no link is out, fewer accepts than end a worker have failed and were counted, and the connections so far were served
abbrev pub invariant-loop : goal.invariant-loop
invariant-loop g l = record {
  back : (g.D.Door.state l.door).is_out ≡ false;
  counted : (g.D.Door.state l.door).faults ≡ risen (g.D.Door.state l.fn.door).faults l.failed;
  few : l.failed < 1000;
  served : HasServed g.D.Link.Link.left g.D.Link.Link.out
      (λ peer. setting_of (client_of l.fn.side peer) (g.C.Clock.tells l.fn.clock) g.F.Looks.alone l.fn.turns)
      (g.D.Door.left l.fn.door) (g.D.Door.left l.door) (g.F.Looks.known l.fn.office) (g.F.Looks.known l.office);
  book : IsGrown (g.F.Looks.known l.office).seen (g.F.Looks.known l.fn.office).seen;
  backed : g.F.Looks.is_backed l.fn.office → g.F.Looks.is_backed l.office;
}
