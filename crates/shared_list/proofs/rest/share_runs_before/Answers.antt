-- A run that ends before the name is before it.
use Rattle.std.proofs.Common.{◌≡◌, ◌++◌, ap, sym, ◌∙◌, append_assoc, subst}
use Rattle.std.specs.Arc.{arc_value}
use Rattle.std.specs.List.{flat_map}
use Rattle.shared_list.specs.Order.{InOrder, before, behind}
use Rattle.shared_list.proofs.OrderLemmas.{AreBefore, back_in_order, front_in_order, passed-before, passed-behind}
use Rattle.shared_list.proofs.OrderLemmas.{run_before}
use Rattle.shared_list.proofs.rest.share_runs_before.Goals as goal

pub loop-first-preserved : goal.loop-first-preserved
loop-first-preserved g c =
    let name = g.T.Named.name in
    let q = c.args.name.now in
    let run = arc_value c.in-Some.first.now in
    let rest = flat_map arc_value c.in-Some.behind.now in
    let whole : flat_map arc_value c.loop-first.left.now ≡ run ++ rest =
    ap (flat_map arc_value) c.in-Some.ensures.cases.0 in
    let order : InOrder name (run ++ rest) = subst (InOrder name) whole c.loop-first.invariant.order in
    let passed : AreBefore name q run =
    run_before name q run (front_in_order name run rest order)
    (rw c.deref.ensures at (sym c.ends_before.ensures ∙ c.if-not-ends_before.false)) in
    record {
      shared =
          ap (λ items. items ++ before name q rest) c.in_ok-share_run.ensures
          ∙ (append_assoc c.loop-first.shared run (before name q rest)
          ∙ (ap (λ items. c.loop-first.shared ++ items)
          (sym (ap (before name q) whole ∙ passed-before name q run rest passed))
          ∙ c.loop-first.invariant.shared));
      left = sym (ap (behind name q) whole ∙ passed-behind name q run rest passed) ∙ c.loop-first.invariant.left;
      order = back_in_order name run rest order;
    }
