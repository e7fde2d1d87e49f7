use Rattle.std.proofs.Common.{◌-◌}
use Rattle.alto_serve.specs.Events.{Emits}
use Rattle.alto_serve.specs.Turns.{Reaches, looks_next}
use Rattle.alto_serve.proofs.turns.settled.Given as goal

-- a look is next, and as many waits are left as the loop has still to go round
abbrev pub invariant-loop-wait : goal.invariant-loop-wait
invariant-loop-wait g l = record {
  come : Emits g.F.Looks.alone
      (λ events. Reaches l.fn.client l.fn.request (looks_next l.fn.most_waits)
      events (looks_next (l.fn.most_waits - l._wait)))
      (g.F.Looks.known l.fn.office) (g.F.Looks.known l.office);
  backed : g.F.Looks.is_backed l.fn.office → g.F.Looks.is_backed l.office;
  clean : g.F.Looks.is_clean l.office → g.F.Looks.is_clean l.fn.office;
}
