-- Where items of the open run are left, all runs are behind the name; else those that end before it are shared.
use Rattle.std.proofs.Common.{◌≡◌, ◌++◌, ap, map, sym, ◌∙◌, append_assoc, subst}
use Rattle.std.specs.Arc.{arc_value}
use Rattle.std.specs.List.{flat_map}
use Rattle.shared_list.specs.Order.{InOrder, before, behind}
use Rattle.shared_list.proofs.OrderLemmas.{AreBehind, ahead-before, ahead-behind, back_in_order, front_in_order}
use Rattle.shared_list.proofs.OrderLemmas.{before_more, behind_more, left_behind, more_behind}
use Rattle.shared_list.proofs.rest.Rest.share_before.Goals as goal

pub share_items_before-requires : goal.share_items_before-requires
share_items_before-requires g c =
    let name = g.T.Named.name in
    let q = c.args.name.now in
    let here = map arc_value c.self.inside.items.now in
    let runs = flat_map arc_value c.self.inside.runs.now in
    let order : InOrder name (here ++ runs) = subst (InOrder name) (sym c.self.view_is) c.requires in
    front_in_order name here runs order

pub returns-then-not-is_empty-clause-shared : goal.returns-then-not-is_empty-clause-shared
returns-then-not-is_empty-clause-shared g c =
    let name = g.T.Named.name in
    let q = c.args.name.now in
    let here = map arc_value c.self.inside.items.now in
    let runs = flat_map arc_value c.self.inside.runs.now in
    let order : InOrder name (here ++ runs) = subst (InOrder name) (sym c.self.view_is) c.requires in
    let past : AreBehind name q runs =
    left_behind name arc_value q here runs c.in_ok-self-inside.field-0.now order c.in_ok-self-inside.ensures.left
    (sym c.is_empty.ensures ∙ c.if-not-is_empty.true) in
    c.in_ok-self-inside.ensures.shared
    ∙ ap (λ items. c.args.shared.now ++ items)
    (sym (ahead-before name q here runs past) ∙ ap (before name q) c.self.view_is)

pub returns-then-not-is_empty-clause-left : goal.returns-then-not-is_empty-clause-left
returns-then-not-is_empty-clause-left g c =
    let name = g.T.Named.name in
    let q = c.args.name.now in
    let here = map arc_value c.self.inside.items.now in
    let runs = flat_map arc_value c.self.inside.runs.now in
    let order : InOrder name (here ++ runs) = subst (InOrder name) (sym c.self.view_is) c.requires in
    let past : AreBehind name q runs =
    left_behind name arc_value q here runs c.in_ok-self-inside.field-0.now order c.in_ok-self-inside.ensures.left
    (sym c.is_empty.ensures ∙ c.if-not-is_empty.true) in
    ap (λ items. items ++ runs) c.in_ok-self-inside.ensures.left
    ∙ (sym (ahead-behind name q here runs past) ∙ ap (behind name q) c.self.view_is)

pub share_runs_before-requires : goal.share_runs_before-requires
share_runs_before-requires g c =
    let name = g.T.Named.name in
    let q = c.args.name.now in
    let here = map arc_value c.self.inside.items.now in
    let runs = flat_map arc_value c.self.inside.runs.now in
    let order : InOrder name (here ++ runs) = subst (InOrder name) (sym c.self.view_is) c.requires in
    back_in_order name here runs order

pub share_items_before-requires-in-Some : goal.share_items_before-requires-in-Some
share_items_before-requires-in-Some g c =
    let name = g.T.Named.name in
    let later = flat_map arc_value c.in_ok-self-inside-2.field-0.now in
    let run = arc_value c.in-Some.first.now in
    let more = flat_map arc_value c.in-Some.runs.now in
    let whole : later ≡ run ++ more = ap (flat_map arc_value) c.in-Some.ensures.cases.0 in
    let in_order : InOrder name (run ++ more) = subst (InOrder name) whole c.in_ok-self-inside-2.ensures.order in
    subst (InOrder name) (sym (c.items.ensures ∙ c.deref.ensures)) (front_in_order name run more in_order)

pub returns-in_ok-self-inside-3-clause-shared : goal.returns-in_ok-self-inside-3-clause-shared
returns-in_ok-self-inside-3-clause-shared g c =
    let name = g.T.Named.name in
    let q = c.args.name.now in
    let here = map arc_value c.self.inside.items.now in
    let runs = flat_map arc_value c.self.inside.runs.now in
    let later = flat_map arc_value c.in_ok-self-inside-2.field-0.now in
    let run = arc_value c.in-Some.first.now in
    let more = flat_map arc_value c.in-Some.runs.now in
    let whole : later ≡ run ++ more = ap (flat_map arc_value) c.in-Some.ensures.cases.0 in
    let in_order : InOrder name (run ++ more) = subst (InOrder name) whole c.in_ok-self-inside-2.ensures.order in
    let is : map arc_value c.items.result.now ≡ run = c.items.ensures ∙ c.deref.ensures in
    let past : AreBehind name q more =
    more_behind name q run more in_order (rw c.in-Some.ensures.cases.0 at c.in_ok-self-inside-2.ensures.stops) in
    let first : before name q (map arc_value c.items.result.now) ≡ before name q later =
    ap (before name q) is ∙ sym (ap (before name q) whole ∙ ahead-before name q run more past) in
    let all : before name q here ++ before name q runs ≡ before name q c.args.self.now =
    sym (before_more name q here runs) ∙ ap (before name q) c.self.view_is in
    c.in_ok-self-inside-3.ensures.shared
    ∙ (ap (λ items. c.share_runs_before.new.shared ++ items) first
    ∙ (c.in_ok-self-inside-2.ensures.shared
    ∙ (ap (λ items. items ++ before name q runs) c.in_ok-self-inside.ensures.shared
    ∙ (append_assoc c.args.shared.now (before name q here) (before name q runs)
    ∙ ap (λ items. c.args.shared.now ++ items) all))))

pub returns-in_ok-self-inside-3-clause-left : goal.returns-in_ok-self-inside-3-clause-left
returns-in_ok-self-inside-3-clause-left g c =
    let name = g.T.Named.name in
    let q = c.args.name.now in
    let here = map arc_value c.self.inside.items.now in
    let runs = flat_map arc_value c.self.inside.runs.now in
    let later = flat_map arc_value c.in_ok-self-inside-2.field-0.now in
    let run = arc_value c.in-Some.first.now in
    let more = flat_map arc_value c.in-Some.runs.now in
    let whole : later ≡ run ++ more = ap (flat_map arc_value) c.in-Some.ensures.cases.0 in
    let in_order : InOrder name (run ++ more) = subst (InOrder name) whole c.in_ok-self-inside-2.ensures.order in
    let is : map arc_value c.items.result.now ≡ run = c.items.ensures ∙ c.deref.ensures in
    let past : AreBehind name q more =
    more_behind name q run more in_order (rw c.in-Some.ensures.cases.0 at c.in_ok-self-inside-2.ensures.stops) in
    let none : behind name q (here ++ runs) ≡ behind name q runs =
    behind_more name arc_value q here runs c.in_ok-self-inside.field-0.now c.in_ok-self-inside.ensures.left
    (sym c.is_empty.ensures ∙ c.if-not-is_empty.false) in
    ap (λ items. items ++ more) (c.in_ok-self-inside-3.ensures.left ∙ ap (behind name q) is)
    ∙ (sym (ap (behind name q) whole ∙ ahead-behind name q run more past)
    ∙ (c.in_ok-self-inside-2.ensures.left ∙ (sym none ∙ ap (behind name q) c.self.view_is)))
