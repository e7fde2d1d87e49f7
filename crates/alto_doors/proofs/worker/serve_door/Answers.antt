use Rattle.std.proofs.Common.{refl, ap, ◌∙◌}
use Rattle.alto_serve.proofs.EventLemmas.{grown_itself, grown_on}
use Rattle.alto_doors.specs.declared.state.DoorState.{DoorState}
use Rattle.alto_doors.proofs.WorkerLemmas.{counted_on, ended_on, few_first, few_on, fits_on, kept_on, left_ended}
use Rattle.alto_doors.proofs.WorkerLemmas.{left_failed, no_end, served_none, served_on, served_where_left}
use Rattle.alto_doors.proofs.worker.serve_door.Goals as goal

pub loop-init : goal.loop-init
loop-init g c = record {
  back = c.requires.none_out;
  counted = refl;
  few = few_first;
  served = served_none _ _ _ _ _ _ refl;
  book = grown_itself _;
  backed = λ was. was;
}

pub serve_next-requires : goal.serve_next-requires
serve_next-requires g c = record { none_out = c.loop.invariant.back }

pub loop-preserved-in-Ok-true : goal.loop-preserved-in-Ok-true
loop-preserved-in-Ok-true g c = record {
  back =
      ap (λ (door : DoorState). door.is_out)
      (kept_on (g.D.Door.state c.loop.door) (g.D.Door.state c.serve_next.new.door) c.in-Ok-true.field-0
      c.in-Ok-true.ensures.noted c.in-Ok-true.field-0-test)
      ∙ c.loop.invariant.back;
  counted =
      ap (λ (door : DoorState). door.faults)
      (kept_on (g.D.Door.state c.loop.door) (g.D.Door.state c.serve_next.new.door) c.in-Ok-true.field-0
      c.in-Ok-true.ensures.noted c.in-Ok-true.field-0-test)
      ∙ c.loop.invariant.counted;
  few = c.loop.invariant.few;
  served = served_on _ _ _ _ _ _ _ _ _ c.loop.invariant.served c.serve_next.ensures.served;
  book = grown_on _ _ _ c.loop.invariant.book c.serve_next.ensures.book;
  backed = λ was. c.serve_next.ensures.backed (c.loop.invariant.backed was);
}

pub overflow_add-failed : goal.overflow_add-failed
overflow_add-failed g c = fits_on c.loop.failed c.loop.invariant.few

pub loop-preserved : goal.loop-preserved
loop-preserved g c = record {
  back = ap (λ (door : DoorState). door.is_out) c.in-Err.ensures.noted ∙ c.loop.invariant.back;
  counted =
      ap (λ (door : DoorState). door.faults) c.in-Err.ensures.noted
      ∙ counted_on (g.D.Door.state c.args.door.now).faults (g.D.Door.state c.loop.door).faults c.loop.failed
      c.loop.invariant.counted;
  few = few_on c.loop.failed c.loop.invariant.few c.if-failed-eq-MOST_FAULTS.false;
  served = served_on _ _ _ _ _ _ _ _ _ c.loop.invariant.served c.serve_next.ensures.served;
  book = grown_on _ _ _ c.loop.invariant.book c.serve_next.ensures.book;
  backed = λ was. c.serve_next.ensures.backed (c.loop.invariant.backed was);
}

-- ---- the door has ended

pub returns-in-Ok-false-clause-left : goal.returns-in-Ok-false-clause-left
returns-in-Ok-false-clause-left g c =
    left_ended (g.D.Door.state c.args.door.now) (g.D.Door.state c.loop.door) (g.D.Door.state c.serve_next.new.door)
    c.loop.failed c.loop.invariant.counted c.loop.invariant.back c.loop.invariant.few
    (ended_on (g.D.Door.state c.loop.door) (g.D.Door.state c.serve_next.new.door) c.in-Ok-false.field-0
    c.in-Ok-false.ensures.noted c.in-Ok-false.field-0-test)

pub returns-in-Ok-false-clause-done : goal.returns-in-Ok-false-clause-done
returns-in-Ok-false-clause-done g c =
    served_where_left (g.D.Door.state c.args.door.now) (g.D.Door.state c.serve_next.new.door)
    (returns-in-Ok-false-clause-left g c)

pub returns-in-Ok-false-clause-served : goal.returns-in-Ok-false-clause-served
returns-in-Ok-false-clause-served g c =
    served_on _ _ _ _ _ _ _ _ _ c.loop.invariant.served c.serve_next.ensures.served

pub returns-in-Ok-false-clause-book : goal.returns-in-Ok-false-clause-book
returns-in-Ok-false-clause-book g c = grown_on _ _ _ c.loop.invariant.book c.serve_next.ensures.book

pub returns-in-Ok-false-clause-backed : goal.returns-in-Ok-false-clause-backed
returns-in-Ok-false-clause-backed g c = λ was. c.serve_next.ensures.backed (c.loop.invariant.backed was)

-- ---- as many accepts have failed as end a worker

pub returns-then-failed-eq-MOST_FAULTS-clause-left : goal.returns-then-failed-eq-MOST_FAULTS-clause-left
returns-then-failed-eq-MOST_FAULTS-clause-left g c =
    left_failed (g.D.Door.state c.args.door.now) (g.D.Door.state c.loop.door) (g.D.Door.state c.serve_next.new.door)
    c.loop.failed c.loop.invariant.counted c.loop.invariant.back c.if-failed-eq-MOST_FAULTS.true
    c.in-Err.ensures.noted

pub returns-then-failed-eq-MOST_FAULTS-clause-done : goal.returns-then-failed-eq-MOST_FAULTS-clause-done
returns-then-failed-eq-MOST_FAULTS-clause-done g c =
    served_where_left (g.D.Door.state c.args.door.now) (g.D.Door.state c.serve_next.new.door)
    (returns-then-failed-eq-MOST_FAULTS-clause-left g c)

pub returns-then-failed-eq-MOST_FAULTS-clause-served : goal.returns-then-failed-eq-MOST_FAULTS-clause-served
returns-then-failed-eq-MOST_FAULTS-clause-served g c =
    served_on _ _ _ _ _ _ _ _ _ c.loop.invariant.served c.serve_next.ensures.served

pub returns-then-failed-eq-MOST_FAULTS-clause-book : goal.returns-then-failed-eq-MOST_FAULTS-clause-book
returns-then-failed-eq-MOST_FAULTS-clause-book g c = grown_on _ _ _ c.loop.invariant.book c.serve_next.ensures.book

pub returns-then-failed-eq-MOST_FAULTS-clause-backed : goal.returns-then-failed-eq-MOST_FAULTS-clause-backed
returns-then-failed-eq-MOST_FAULTS-clause-backed g c = λ was. c.serve_next.ensures.backed (c.loop.invariant.backed was)

pub unreachable-requires : goal.unreachable-requires
unreachable-requires g c = no_end c.in-None.ensures.steps

pub unreachable-unreachable : goal.unreachable-unreachable
unreachable-unreachable g c = c.unreachable.result
