use Rattle.std.proofs.Common.{◌≡◌, ◌++◌, ◌∷◌, [], List, ap, arith, length, subst, sym, ℕ}
use Rattle.pid_prefix.specs.Index.{AreBelow, IsIndexOf}
use Rattle.pid_prefix.proofs.IndexLemmas.{counts_more}
use Rattle.pid_prefix.proofs.index.Index.of.Goals as goal

pub loop-bucket-preserved : goal.loop-bucket-preserved
loop-bucket-preserved g c =
    let value = g.N.Number.value in
    let numbers = c.args.numbers.now in
    let cut = c.even_buckets-shift.result in
    let l = c.loop-bucket in (
      omega (arith, c.in_ok-push.ensures.len, l.invariant.0),
      λ rising. subst (λ (below : List ℕ). IsIndexOf value numbers
          (record { shift = cut.shift; least = cut.least; below = below })) (sym c.in_ok-push.ensures.items)
          (counts_more value numbers cut.shift cut.least l.below.items c.count_below.result (l.invariant.1 rising)
          (subst (λ bucket. AreBelow value numbers cut.shift cut.least bucket c.count_below.result) (sym l.invariant.0)
          (c.count_below.ensures rising))),
    )
