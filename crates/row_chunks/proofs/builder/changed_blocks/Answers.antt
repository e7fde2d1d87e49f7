-- Each block takes its own changes, and the blocks behind it the others.
use Rattle.std.proofs.Common.{◌≡◌, ◌+◌, ◌-◌, ◌≤◌, ◌∷◌, ◌++◌, ap, sym, ◌∙◌, subst, arith, drop, length, take}
use Rattle.std.proofs.lemmas.List.{drop-drop, drop_more, length-drop, take_rest}
use Rattle.alto_rows.specs.Changes.{Changes, AreOrdered, changed}
use Rattle.alto_rows.specs.Rows.{AreSorted}
use Rattle.alto_rows.proofs.RowsLemmas.{sorted_left}
use Rattle.row_chunks.specs.Blocks.{Placed, joined}
use Rattle.row_chunks.specs.Split.{later_changes, own_changes}
use Rattle.row_chunks.proofs.ApartLemmas.{changed_more}
use Rattle.row_chunks.proofs.BlockLemmas.{sorted_drop}
use Rattle.row_chunks.proofs.SplitLemmas.{ordered_later, ordered_own}
use Rattle.row_chunks.proofs.builder.changed_blocks.Goals as goal

pub with_block-requires-clause-sorted : goal.with_block-requires-clause-sorted
with_block-requires-clause-sorted g c =
    let slots = c.args.slots.now in
    let at = c.loop-at.at in
    let slot = c.index-slots-at.result in
    let step : drop at slots ≡ slot ∷ drop (at + 1) slots =
    drop_more slots at slot c.loop-at-test.true ∙ ap (λ (one : Placed). one ∷ drop (at + 1) slots)
    (sym c.index-slots-at.is) in
    let sorted : AreSorted (slot.rows ++ joined (drop (at + 1) slots)) =
    rw step at (sorted_drop slots at c.requires.sorted) in
    sorted_left slot.rows (joined (drop (at + 1) slots)) sorted

pub with_block-requires-clause-ordered : goal.with_block-requires-clause-ordered
with_block-requires-clause-ordered g c =
    let rest = drop c.loop-at.taken c.args.changes.now in
    subst (λ (own : Changes). AreOrdered own) (sym c.count_own-own.ensures.own)
    (rw (take_rest c.args.changes.now c.loop-at.taken) (ordered_own _ rest c.loop-at.invariant.ordered))

pub loop-at-preserved : goal.loop-at-preserved
loop-at-preserved g c =
    let slots = c.args.slots.now in
    let changes = c.args.changes.now in
    let l = c.loop-at in
    let slot = c.index-slots-at.result in
    let own = c.count_own-own.result in
    let rest = drop l.taken changes in
    let later = drop (l.at + 1) slots in
    let step : drop l.at slots ≡ slot ∷ later =
    drop_more slots l.at slot c.loop-at-test.true ∙ ap (λ (one : Placed). one ∷ later) (sym c.index-slots-at.is) in
    let mine : take own rest ≡ own_changes later rest =
    rw (take_rest changes l.taken, take_rest slots (l.at + 1)) at c.count_own-own.ensures.own in
    let others : drop own rest ≡ later_changes later rest =
    rw (take_rest changes l.taken, take_rest slots (l.at + 1)) at c.count_own-own.ensures.rest in
    let left : drop (l.taken + own) changes ≡ later_changes later rest =
    sym (drop-drop own l.taken changes) ∙ others in
    let within : own ≤ length rest = rw (take_rest changes l.taken) at c.count_own-own.ensures.within in
    let room : length rest ≡ length changes - l.taken = length-drop l.taken changes in
    record {
      whole =
          rw (c.in_ok-builder.ensures, take_rest changes l.taken, mine, left)
          (changed_more l.builder (c.args.done ++ changed (joined slots) changes) slots l.at slot rest
          c.requires.begin c.requires.sorted step l.invariant.whole);
      within = omega (arith, within, room, l.invariant.within);
      ordered =
          subst (λ (more : Changes). AreOrdered more) (sym left) (ordered_later later rest l.invariant.ordered);
    }
