-- The set gains the id of the next receipt, or has it.
use Rattle.std.proofs.Common.{take, ap, ◌∙◌, subst}
use Rattle.std.specs.BTreeSet.{Updates, contains}
use Rattle.std.specs.Prelude.{not, true}
use Rattle.alto_rows.specs.Order.{name_cmp}
use Rattle.base_code.specs.Bases.{KeptData}
use Rattle.base_check.proofs.ReceiptLemmas.{came_before, distinct_more, ids_more, no_ids, none_distinct, taken_next}
use Rattle.base_check.specs.Rules.{ids_of}
use Rattle.base_check.proofs.receipts.are_distinct.Goals as goal

pub loop-kept-init : goal.loop-kept-init
loop-kept-init c = record { has = no_ids c.new-ids.result c.new-ids.ensures.empty; distinct = none_distinct }

pub returns-then-not-branch : goal.returns-then-not-branch
returns-then-not-branch c =
    let test = c.in_ok-add.ensures.test ∙ ap (λ (kept : KeptData). not (contains name_cmp c.loop-kept.ids kept.id))
    c.kept.view_is in
    came_before c.args.receipts.now c.loop-kept.kept-index c.kept-item.result c.loop-kept.ids c.in_ok-add.field-0
    c.loop-kept-test.true c.kept-item.is
    c.loop-kept.invariant.has test c.if-not-branch.true

pub loop-kept-preserved : goal.loop-kept-preserved
loop-kept-preserved c =
    let ids = ids_of (take c.loop-kept.kept-index c.args.receipts.now) in
    let next = taken_next c.args.receipts.now c.loop-kept.kept-index c.kept-item.result c.loop-kept-test.true
    c.kept-item.is in
    let test = c.in_ok-add.ensures.test ∙ ap (λ (kept : KeptData). not (contains name_cmp c.loop-kept.ids kept.id))
    c.kept.view_is in
    let updates =
    subst (λ (kept : KeptData). Updates name_cmp c.loop-kept.ids c.add.new.ids kept.id true) c.kept.view_is
    c.in_ok-add.ensures.updates in
    record {
      has = rw next (ids_more ids c.kept-item.result.id c.loop-kept.ids c.add.new.ids
          c.loop-kept.invariant.has updates);
      distinct = rw next
          (distinct_more ids c.kept-item.result.id c.loop-kept.ids c.in_ok-add.field-0 c.loop-kept.invariant.has
          c.loop-kept.invariant.distinct test
          c.if-not-branch.false);
    }
