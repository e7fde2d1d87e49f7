-- The map has the last value of each key that is written so far.
use Rattle.std.proofs.Common.{◌≡◌, ◌+◌, [], ◌∷◌, ◌++◌, take, refl, rules}
use Rattle.std.proofs.lemmas.List.{take_all, take_more}
use Rattle.std.specs.BTreeMap as map
use Rattle.alto_rows.proofs.ChangeLemmas.{by_key_cmp, last_do, last_more}
use Rattle.alto_rows.proofs.plain.last_values.Goals as goal

pub loop-write-init : goal.loop-write-init
loop-write-init c = record {
  has = λ old at. rw c.new-last.ensures.empty refl;
  ordered = by_key_cmp (λ R. map.IsOrdered R c.new-last.result) c.new-last.ensures.ordered;
}

pub loop-write-preserved : goal.loop-write-preserved
loop-write-preserved c =
    let write = c.write-item.result in
    let done = take c.loop-write.write-index c.args.writes.now in
    let more : take (c.loop-write.write-index + 1) c.args.writes.now ≡ done ++ write ∷ [] =
    rw (take_more c.args.writes.now c.loop-write.write-index write c.loop-write-test.true, ← c.write-item.is) refl in
    record {
      has = rw more (last_more done write c.loop-write.last c.in_ok-last.last c.loop-write.invariant.has
          c.in_ok-last.ensures.updates);
      ordered = c.in_ok-last.ensures.ordered;
    }

pub returns : goal.returns
returns c =
    let all : take c.loop-write.write-index c.args.writes.now ≡ c.args.writes.now =
    take_all c.loop-write.write-index c.args.writes.now (search (rules, c.loop-write-test.false)) in
    last_do c.args.writes.now c.loop-write.last (rw all at c.loop-write.invariant.has) c.loop-write.invariant.ordered
