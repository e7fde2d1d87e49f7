-- The changes are those of all sources.
use Rattle.std.proofs.Common.{◌≡◌, ◌++◌, ◌∷◌, ◌+◌, [], refl, take}
use Rattle.std.proofs.lemmas.List.{take_all, take_more}
use Rattle.cost_tables.specs.Renewed.{AreChanges}
use Rattle.cost_tables.proofs.ListLemmas.{changed_numbered, numbers_more}
use Rattle.cost_tables.proofs.RenewedLemmas.{changes_more, costs_more, is_renewed}
use Rattle.cost_tables.proofs.table.Table.renewed.Goals as goal

pub loop-source-preserved : goal.loop-source-preserved
loop-source-preserved g c =
    let rows = g.R.RowStore.rows c.args.rows.now in
    let net = c.args.net.now in
    let metric = c.args.metric.now in
    let sources = c.args.sources.now in
    let source = c.source-item.result in
    let changes = c.loop-source.changes.items in
    let change = c.in_ok-change.change in
    let made = c.in_ok-change.ensures in
    let more : take (c.loop-source.source-index + 1) sources ≡ take c.loop-source.source-index sources ++ source ∷ [] =
    rw (take_more sources c.loop-source.source-index source c.loop-source-test.true, ← c.source-item.is) refl in
    record {
      changes = rw (c.in_ok-push.ensures.items, more)
          (changes_more (take c.loop-source.source-index sources) changes source change
          c.loop-source.invariant.changes made.source made.named);
      told = λ before came.
          rw c.in_ok-push.ensures.items
          (costs_more rows net metric changes source change (c.loop-source.invariant.told before came) made.source
          (made.costs before came));
      numbered = rw (c.in_ok-push.ensures.items, c.in_ok-next.ensures)
          (numbers_more c.loop-source.next c.args.self.now changes change (rw (← c.deref.ensures.value) made.list)
          c.loop-source.invariant.numbered);
    }

pub invariant_of-result : goal.invariant_of-result
invariant_of-result g c =
    rw (c.in_ok-changed.ensures.after, c.self.view_is)
    (changed_numbered c.loop-source.next c.args.self.now c.loop-source.changes.items c.loop-source.invariant.numbered)

pub returns : goal.returns
returns g c before came =
    let rows = g.R.RowStore.rows c.args.rows.now in
    let sources = c.args.sources.now in
    let changes = c.loop-source.changes.items in
    let made : AreChanges sources changes =
    rw (take_all c.loop-source.source-index sources c.loop-source-test.false) at c.loop-source.invariant.changes in
    rw (c.in_ok-changed.ensures.after, c.self.view_is)
    (is_renewed rows c.args.net.now c.args.metric.now sources c.args.self.now changes c.requires.rise made
    (c.loop-source.invariant.told before came))
