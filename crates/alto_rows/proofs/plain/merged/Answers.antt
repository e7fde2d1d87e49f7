-- Each change passes the rows before its key.
use Rattle.std.proofs.Common.{◌≡◌, ◌∷◌, ◌++◌, refl, ap, ◌∙◌, subst}
use Rattle.std.proofs.lemmas.Map.Keys.{sorted_tail}
use Rattle.std.specs.BTreeMap as map
use Rattle.std.specs.Map.{keys_of}
use Rattle.alto_rows.specs.Changes.{Changes, AreOrdered, changed, own_row}
use Rattle.alto_rows.specs.Order.{key_cmp}
use Rattle.alto_rows.specs.Place.{rows_before}
use Rattle.alto_rows.specs.Rows.{Rows, rows_past}
use Rattle.alto_rows.proofs.ChangeLemmas.{by_key_cmp, merged_more}
use Rattle.alto_rows.proofs.RunLemmas.{sorted_rows_past}
use Rattle.alto_rows.proofs.plain.merged.Goals as goal

pub loop-key-init : goal.loop-key-init
loop-key-init c =
    let whole : c.into_iter-key-iterator.result ≡ c.args.changes.entries =
    c.into_iter-key-iterator.ensures.into_iter_gives.0 in
    record {
      whole = rw (c.in_ok-all.ensures.items, whole) refl;
      sorted = c.requires;
      ordered = rw whole (by_key_cmp (λ R. map.IsOrdered R c.args.changes)
          c.into_iter-key-iterator.ensures.into_iter_gives.5);
    }

pub loop-key-preserved : goal.loop-key-preserved
loop-key-preserved c =
    let l = c.loop-key in
    let rows = l.rest.now in
    let key = c.in-Some.key in
    let value = c.in-Some.value in
    let left = c.next.new.self in
    let step : l.key-iterator ≡ (key, value) ∷ left = c.in-Some.ensures.steps in
    let ordered : AreOrdered ((key, value) ∷ left) =
    subst (λ (changes : Changes). AreOrdered changes) step l.invariant.ordered in
    let passed : c.push_copies.new.copies.items ≡ l.all.items ++ rows_before rows key =
    c.in_ok-push_copies.ensures ∙ ap (λ (more : Rows). l.all.items ++ more) c.head_before.ensures in
    let put : c.push_own.new.rows.items ≡ (l.all.items ++ rows_before rows key) ++ own_row key value =
    c.in_ok-push_own.ensures ∙ ap (λ (more : Rows). more ++ own_row key value) passed in
    let past : c.tail_after-past.result.now ≡ rows_past rows key = c.tail_after-past.ensures in
    record {
      whole = rw (put, past) (merged_more l.all.items rows (changed c.args.rows.now c.args.changes.entries) key value
          left l.invariant.sorted ordered (rw step at l.invariant.whole));
      sorted = rw past (sorted_rows_past rows key l.invariant.sorted);
      ordered = sorted_tail key_cmp key (keys_of left) ordered;
    }
