-- Each item that reads goes to the edits so far, the first that doesn't is the fault of all, and at the end they are
-- all.
use Rattle.std.proofs.Common.{◌≡◌, ◌++◌, ◌∷◌, [], arith}
use Rattle.std.proofs.lemmas.List.Elements.{All-push}
use Rattle.std.proofs.lemmas.Result.{err_from_is_err_and}
use Rattle.alto_edits.specs.Edits.{IsEdit}
use Rattle.edit_forms.proofs.ItemLemmas.{item_fault, no_more_items, one_item_more}
use Rattle.edit_forms.proofs.json_body.edits_of.Goals as goal

pub returns-in_err-edit-clause-err : goal.returns-in_err-edit-clause-err
returns-in_err-edit-clause-err c =
    let p = err_from_is_err_and c.from_residual-in_err-edit.result c.from_residual-in_err-edit.ensures.1 in
    rw (p.1, p.2) (λ other.
    item_fault c.loop-place.edits.items c.in_err-edit.field-0.0 c.args.items.now c.loop-place.place
    c.index-items-place.result
    (omega arith) c.index-items-place.is (c.in_err-edit.ensures.err other) c.loop-place.invariant.on)

pub loop-place-preserved : goal.loop-place-preserved
loop-place-preserved c =
    let items : c.push.new.self.items ≡ c.loop-place.edits.items ++ c.in_ok-edit.edit ∷ [] =
    c.in_ok-push.ensures.items in
    record {
      on = rw items (one_item_more c.loop-place.edits.items c.in_ok-edit.edit c.args.items.now c.loop-place.place
          c.index-items-place.result
          (omega arith) c.index-items-place.is c.in_ok-edit.ensures.ok c.loop-place.invariant.on);
      edits = rw items (All-push IsEdit c.loop-place.edits.items c.in_ok-edit.edit c.loop-place.invariant.edits
          c.in_ok-edit.ensures.edit);
    }

pub returns-clause-ok : goal.returns-clause-ok
returns-clause-ok c = no_more_items c.loop-place.edits.items c.args.items.now c.loop-place.place (omega arith)
    c.loop-place.invariant.on
