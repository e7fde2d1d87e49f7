use Rattle.std.proofs.Common.{[], ◌∷◌, ◌++◌, ap, arith, length, subst, ◌∙◌}
use Rattle.std.specs.List.Sorted.{IsNonDecreasingBy}
use Rattle.pid_prefix.specs.Index.{IsIndexOf}
use Rattle.pid_prefix.proofs.RangesLemmas.{keeps_more, keeps_same}
use Rattle.pid_prefix.proofs.ranges.Ranges.narrowed.Goals as goal
use Rattle.pid_prefix.proofs.ranges.Ranges.narrowed.Goals.{in-Some+in_ok-push+in_ok-row_pid+in_ok-push-2, in_default}

pub loop-range-preserved : goal.loop-range-preserved
loop-range-preserved g c =
    elim c.match-narrowed.branch [
      | in-Some+in_ok-push+in_ok-row_pid+in_ok-push-2 w ↦
          keeps_more g.N.Number.value g.N.Number.limit c.args.rows.now c.args.ranges.now c.loop-range.range-index _ _
          c.loop-range.firsts.items c.match-narrowed.firsts.items w.in-Some.first
          c.loop-range.pids.items c.match-narrowed.pids.items c.loop-range-test.true w.in-Some.ensures.some
          (ap (λ v. v.items) w.firsts-is ∙ w.in_ok-push.ensures.items)
          (ap (λ v. v.items) w.pids-is ∙ (w.in_ok-push-2.ensures.items
          ∙ ap (λ pid. c.loop-range.pids.items ++ pid ∷ []) w.in_ok-row_pid.ensures)) c.loop-range.invariant
      | in_default w ↦
          keeps_same g.N.Number.value g.N.Number.limit c.args.rows.now c.args.ranges.now c.loop-range.range-index _
          c.loop-range.firsts.items c.match-narrowed.firsts.items
          c.loop-range.pids.items c.match-narrowed.pids.items c.loop-range-test.true w.in_default.ensures.none
          (ap (λ v. v.items) w.firsts-is) (ap (λ v. v.items) w.pids-is) c.loop-range.invariant
    ]

pub invariant_of-result : goal.invariant_of-result
invariant_of-result g c = (
  omega (arith, c.loop-range.invariant.0, ap length c.in_ok-pids-2.ensures, ap length c.deref.ensures.value),
  subst (λ firsts. IsNonDecreasingBy g.N.Number.value firsts
      → IsIndexOf g.N.Number.value firsts c.in_ok-index.index) c.deref-2.ensures.value c.in_ok-index.ensures,
)
