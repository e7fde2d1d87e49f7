-- What is before a change's name stays, then comes its item, and what is behind is left.
use Rattle.std.proofs.Common.{◌≡◌, ◌++◌, ◌∷◌, ◌∙◌, Some, ap, ap₂, append-nil, sym, subst}
use Rattle.std.specs.List.Sorted.{IsStrictlySortedBy}
use Rattle.std.specs.Map.{keys_of}
use Rattle.std.specs.Option.{option_to_list}
use Rattle.shared_list.specs.Changed.{changed}
use Rattle.shared_list.specs.Order.{before, name_cmp}
use Rattle.shared_list.proofs.ChangedLemmas.{ArePast, walked}
use Rattle.shared_list.proofs.OrderLemmas.{back_in_order}
use Rattle.shared_list.proofs.list.SharedList.changed.Goals as goal

pub share_before-requires : goal.share_before-requires
share_before-requires g c =
    back_in_order g.T.Named.name c.loop-change.made c.loop-change.rest c.loop-change.invariant.order

pub loop-change-preserved-in_ok-push : goal.loop-change-preserved-in_ok-push
loop-change-preserved-in_ok-push g c =
    let name = g.T.Named.name in
    let made = c.loop-change.made in
    let rest = c.loop-change.rest in
    let change = c.in-Some.change in
    let whole = changed name c.args.self.now c.args.changes.items in
    let more : c.loop-change.change-iterator.rest.items ≡ change ∷ c.next.new.self.rest.items =
    c.in-Some.ensures.steps.0 in
    let shared : c.share_before.new.shared ≡ made ++ before name change.0 rest =
    rw c.into_parts-item.ensures.name at c.in_ok-share_before.ensures.shared in
    let step = walked name made rest c.push.new.self c.share_before.new.self whole change _
    (c.in_ok-push.ensures
    ∙ ap₂ (λ front own. front ++ option_to_list own) shared
    (ap (λ item. Some item) c.in_ok-new.ensures.ok ∙ (sym c.in-Some-item.is ∙ c.into_parts-item.ensures.item)))
    (rw c.into_parts-item.ensures.name at c.in_ok-share_before.ensures.left)
    (rw (c.into_parts-item.ensures.item, c.into_parts-item.ensures.name) at c.into_parts-item.ensures.has)
    (subst (λ changes. changed name (made ++ rest) changes ≡ whole) more c.loop-change.invariant.whole)
    c.loop-change.invariant.order
    (subst (λ changes. IsStrictlySortedBy name_cmp (keys_of changes)) more c.loop-change.invariant.rise)
    (subst (λ changes. ArePast name made changes) more c.loop-change.invariant.past) in
    record { whole = step.0; order = step.1; rise = step.2; past = step.3 }

pub loop-change-preserved : goal.loop-change-preserved
loop-change-preserved g c =
    let name = g.T.Named.name in
    let made = c.loop-change.made in
    let rest = c.loop-change.rest in
    let change = c.in-Some.change in
    let whole = changed name c.args.self.now c.args.changes.items in
    let more : c.loop-change.change-iterator.rest.items ≡ change ∷ c.next.new.self.rest.items =
    c.in-Some.ensures.steps.0 in
    let shared : c.share_before.new.shared ≡ made ++ before name change.0 rest =
    rw c.into_parts-item.ensures.name at c.in_ok-share_before.ensures.shared in
    let step = walked name made rest c.share_before.new.shared c.share_before.new.self whole change _
    (sym (append-nil c.share_before.new.shared)
    ∙ ap₂ (λ front own. front ++ option_to_list own) shared
    (sym c.in_default.is ∙ c.into_parts-item.ensures.item))
    (rw c.into_parts-item.ensures.name at c.in_ok-share_before.ensures.left)
    (rw (c.into_parts-item.ensures.item, c.into_parts-item.ensures.name) at c.into_parts-item.ensures.has)
    (subst (λ changes. changed name (made ++ rest) changes ≡ whole) more c.loop-change.invariant.whole)
    c.loop-change.invariant.order
    (subst (λ changes. IsStrictlySortedBy name_cmp (keys_of changes)) more c.loop-change.invariant.rise)
    (subst (λ changes. ArePast name made changes) more c.loop-change.invariant.past) in
    record { whole = step.0; order = step.1; rise = step.2; past = step.3 }
