-- The item is in the first run that doesn't end before the name.
use Rattle.std.proofs.Common.{◌≡◌, ◌++◌, ◌∷◌, ◌+◌, ◌∙◌, ap, drop, refl, sym, subst, true, false}
use Rattle.std.proofs.lemmas.List.{drop_more}
use Rattle.std.specs.Arc.{arc_value}
use Rattle.std.specs.List.{flat_map}
use Rattle.shared_list.specs.Order.{InOrder, ends_before, item_of}
use Rattle.shared_list.proofs.FindLemmas.{found_here, found_later}
use Rattle.shared_list.proofs.OrderLemmas.{back_in_order, front_in_order}
use Rattle.shared_list.proofs.list.SharedList.search.Goals as goal

pub search-requires : goal.search-requires
search-requires g c =
    let name = g.T.Named.name in
    let q = c.args.name.now in
    let runs = c.deref-run-items.result.now in
    let run = arc_value c.run-item.result in
    let more = flat_map arc_value (drop (c.loop-run.run-index + 1) runs) in
    let split : drop c.loop-run.run-index runs ≡ c.run-item.result ∷ drop (c.loop-run.run-index + 1) runs =
    rw (drop_more runs c.loop-run.run-index c.run-item.result c.loop-run-test.true, ← c.run-item.is) refl in
    let order : InOrder name (run ++ more) = rw split at c.loop-run.invariant.order in
    subst (InOrder name) (sym c.deref-then-not-ends_before.ensures) (front_in_order name run more order)

pub returns-then-not-ends_before : goal.returns-then-not-ends_before
returns-then-not-ends_before g c =
    let name = g.T.Named.name in
    let q = c.args.name.now in
    let runs = c.deref-run-items.result.now in
    let run = arc_value c.run-item.result in
    let more = flat_map arc_value (drop (c.loop-run.run-index + 1) runs) in
    let split : drop c.loop-run.run-index runs ≡ c.run-item.result ∷ drop (c.loop-run.run-index + 1) runs =
    rw (drop_more runs c.loop-run.run-index c.run-item.result c.loop-run-test.true, ← c.run-item.is) refl in
    let order : InOrder name (run ++ more) = rw split at c.loop-run.invariant.order in
    let not_so : ends_before name q run ≡ false =
    rw c.deref.ensures at (sym c.ends_before.ensures ∙ c.if-not-ends_before.true) in
    let here : item_of name (run ++ more) q ≡ item_of name c.args.self.now q = rw split at c.loop-run.invariant.found in
    c.search.ensures
    ∙ (ap (λ items. item_of name items q) c.deref-then-not-ends_before.ensures
    ∙ (sym (found_here name q run more order not_so) ∙ here))

pub loop-run-preserved : goal.loop-run-preserved
loop-run-preserved g c =
    let name = g.T.Named.name in
    let q = c.args.name.now in
    let runs = c.deref-run-items.result.now in
    let run = arc_value c.run-item.result in
    let more = flat_map arc_value (drop (c.loop-run.run-index + 1) runs) in
    let split : drop c.loop-run.run-index runs ≡ c.run-item.result ∷ drop (c.loop-run.run-index + 1) runs =
    rw (drop_more runs c.loop-run.run-index c.run-item.result c.loop-run-test.true, ← c.run-item.is) refl in
    let order : InOrder name (run ++ more) = rw split at c.loop-run.invariant.order in
    let so : ends_before name q run ≡ true =
    rw c.deref.ensures at (sym c.ends_before.ensures ∙ c.if-not-ends_before.false) in
    let here : item_of name (run ++ more) q ≡ item_of name c.args.self.now q = rw split at c.loop-run.invariant.found in
    record {
      found = sym (found_later name q run more order so) ∙ here;
      order = back_in_order name run more order;
    }
