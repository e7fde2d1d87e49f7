use Rattle.std.proofs.Common.{rules, ◌≡◌, ◌-◌, ◌/◌, arith, sym, subst, length}
use Rattle.pid_prefix.proofs.RangeLemmas.{step_halves}
use Rattle.pid_prefix.specs.Index.{EndsIn}
use Rattle.pid_prefix.proofs.RangesLemmas.{ends_in_half}
use Rattle.pid_prefix.proofs.ranges.count_begun.Goals as goal

pub loop-left-init : goal.loop-left-init
loop-left-init g c = let none : c.args.steps.now - c.args.steps.now ≡ 0 = omega arith in record {
  part = c.requires.part;
  counted = omega arith;
  halved = rw none (omega (arith, c.requires.part.within));
  cost = rw none (omega arith);
}

pub overflow_add-begun : goal.overflow_add-begun
overflow_add-begun g c = let w = c.loop-left.invariant.part.within in search rules

pub offset_bounds-firsts-begun : goal.offset_bounds-firsts-begun
offset_bounds-firsts-begun g c = omega (arith, c.loop-left.invariant.part.within)

pub bounds-firsts-begun : goal.bounds-firsts-begun
bounds-firsts-begun g c = omega (arith, c.loop-left.invariant.part.within, c.loop-left-test.true)

pub overflow_add-begun-in-loop-left : goal.overflow_add-begun-in-loop-left
overflow_add-begun-in-loop-left g c = let w = c.loop-left.invariant.part.within in search rules

pub loop-left-preserved : goal.loop-left-preserved
loop-left-preserved g c =
    let firsts = c.args.firsts.now in
    let left = c.loop-left.left in
    let halves = step_halves c.args.steps.now c.loop-left.steps left (left / 2) (length firsts)
    c.loop-left.invariant.counted c.loop-left.invariant.halved c.loop-left-test.true (omega arith) in
    let next = ends_in_half g.N.Number.value firsts c.args.sought.now c.loop-left.begun left
    c.index-firsts-begun.result c.is_at_or_past-is_begun.result c.requires.rise c.loop-left.invariant.part
    c.loop-left-test.true c.index-firsts-begun.is c.is_at_or_past-is_begun.ensures.answer in
    record {
      part = subst (λ begun. EndsIn g.N.Number.value firsts c.args.sought.now begun (left / 2))
          (sym c.select_unpredictable-begun.ensures) next;
      counted = omega (arith, c.is_at_or_past-is_begun.ensures.counted, c.loop-left.invariant.counted);
      halved = rw c.is_at_or_past-is_begun.ensures.counted halves.0;
      cost = rw c.is_at_or_past-is_begun.ensures.counted halves.1;
    }

pub returns-clause-within : goal.returns-clause-within
returns-clause-within g c = omega (arith, c.loop-left.invariant.part.within)

pub returns-clause-begun : goal.returns-clause-begun
returns-clause-begun g c =
    let part = c.loop-left.invariant.part in
    (part.before, λ k d low high. part.behind k d (omega (arith, c.loop-left-test.false)) high)
