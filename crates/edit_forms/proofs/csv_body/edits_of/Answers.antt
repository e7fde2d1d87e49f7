-- Each record that reads goes to the edits so far, the first that doesn't is the fault of all, and at the end they are
-- all.
use Rattle.std.proofs.Common.{◌≡◌, ◌+◌, ◌++◌, ◌∷◌, [], suc, vec_len, sym, arith}
use Rattle.std.proofs.lemmas.List.Elements.{All-push}
use Rattle.std.proofs.lemmas.Result.{err_from_is_err_and}
use Rattle.csv.specs.Records.{fields_of}
use Rattle.alto_edits.specs.Edits.{IsEdit}
use Rattle.edit_forms.proofs.EditLemmas.{first_fault, no_more, one_more}
use Rattle.edit_forms.proofs.csv_body.edits_of.Goals as goal

pub returns-in_err-edit-clause-err : goal.returns-in_err-edit-clause-err
returns-in_err-edit-clause-err c =
    let p = err_from_is_err_and c.from_residual-in_err-edit.result c.from_residual-in_err-edit.ensures.1 in
    rw (p.1, p.2) (λ other.
    first_fault c.args.records.now c.loop-at_hand.edits.items c.in_err-edit.field-0.0 (vec_len c.loop-at_hand.edits + 1)
    c.loop-at_hand.records
    (fields_of c.in-Some.at_hand.now) c.in-Some.ensures (rw c.len.ensures at (c.in_err-edit.ensures.err other))
    c.loop-at_hand.invariant.on)

pub loop-at_hand-preserved : goal.loop-at_hand-preserved
loop-at_hand-preserved c =
    let items : c.push.new.self.items ≡ c.loop-at_hand.edits.items ++ c.in_ok-edit.edit ∷ [] =
    c.in_ok-push.ensures.items in
    let numbered : vec_len c.push.new.self + 1 ≡ suc (vec_len c.loop-at_hand.edits + 1) =
    omega (arith, c.in_ok-push.ensures.len) in
    record {
      on = rw (items, c.in_ok-advance.ensures.ok)
          (one_more c.args.records.now c.loop-at_hand.edits.items c.in_ok-edit.edit (vec_len c.loop-at_hand.edits + 1)
          (vec_len c.push.new.self + 1) c.loop-at_hand.records
          (fields_of c.in-Some.at_hand.now) c.in-Some.ensures (rw c.len.ensures at c.in_ok-edit.ensures.ok) numbered
          c.loop-at_hand.invariant.on);
      edits = rw items (All-push IsEdit c.loop-at_hand.edits.items c.in_ok-edit.edit c.loop-at_hand.invariant.edits
          c.in_ok-edit.ensures.edit);
    }

pub returns-clause-ok : goal.returns-clause-ok
returns-clause-ok c =
    no_more c.args.records.now c.loop-at_hand.edits.items (vec_len c.loop-at_hand.edits + 1) c.loop-at_hand.records
    (sym c.in_default.ensures) c.loop-at_hand.invariant.on
