-- Each change passes the rows before its key.
use Rattle.std.proofs.Common.{◌≡◌, ◌+◌, ◌∷◌, ◌++◌, ap, sym, ◌∙◌, subst, drop}
use Rattle.std.proofs.lemmas.List.{drop_more}
use Rattle.std.proofs.lemmas.Map.Keys.{sorted_tail}
use Rattle.std.specs.Map.{keys_of}
use Rattle.std.specs.Prelude.{Option}
use Rattle.alto_rows.specs.declared.key.Key.{Key}
use Rattle.alto_rows.specs.declared.value.Value.{Value}
use Rattle.alto_rows.specs.Changes.{Changes, AreOrdered, changed, own_row}
use Rattle.alto_rows.specs.Order.{key_cmp}
use Rattle.alto_rows.specs.Place.{rows_before}
use Rattle.alto_rows.specs.Rows.{Rows, rows_past}
use Rattle.alto_rows.proofs.ChangeLemmas.{merged_more}
use Rattle.alto_rows.proofs.RunLemmas.{sorted_rows_past}
use Rattle.row_chunks.proofs.merge.with_changed.Goals as goal

pub loop-change-preserved : goal.loop-change-preserved
loop-change-preserved c =
    let l = c.loop-change in
    let rows = l.rest.now in
    let change = c.change-item.result in
    let left = drop (l.change-index + 1) c.args.changes.now in
    let step : drop l.change-index c.args.changes.now ≡ change ∷ left =
    drop_more c.args.changes.now l.change-index change c.loop-change-test.true
    ∙ ap (λ (one : Key × Option Value). one ∷ left) (sym c.change-item.is) in
    let ordered : AreOrdered (change ∷ left) =
    subst (λ (changes : Changes). AreOrdered changes) step l.invariant.ordered in
    let passed : c.in_ok-all.all.items ≡ l.all.items ++ rows_before rows change.0 =
    c.in_ok-all.ensures ∙ ap (λ (more : Rows). l.all.items ++ more)
    (c.split_round.ensures.before ∙ ap (λ (key : Key). rows_before rows key) c.key.ensures) in
    let put : c.in_ok-all-2.all.items ≡ (l.all.items ++ rows_before rows change.0) ++ own_row change.0 change.1 =
    c.in_ok-all-2.ensures ∙ ap (λ (more : Rows). more ++ own_row change.0 change.1) passed in
    let past : c.split_round.result.1.now ≡ rows_past rows change.0 =
    c.split_round.ensures.past ∙ ap (λ (key : Key). rows_past rows key) c.key.ensures in
    record {
      whole = rw (put, past) (merged_more l.all.items
          rows (c.args.done.items ++ changed c.args.rows.now c.args.changes.now) change.0 change.1 left
          l.invariant.sorted ordered (rw step at l.invariant.whole));
      sorted = rw past (sorted_rows_past rows change.0 l.invariant.sorted);
      ordered = sorted_tail key_cmp change.0 (keys_of left) ordered;
    }
