use Rattle.std.proofs.Common.{◌≡◌, [], ◌∷◌, ◌++◌, All, refl, ap, sym, subst, ◌∙◌}
use Rattle.std.proofs.lemmas.Result.{err_from_is_err_and}
use Rattle.alto_edits.specs.Edits.{IsEdit}
use Rattle.alto_book.specs.Acceptance.{accept}
use Rattle.alto_hub.specs.History.{Submitted, Reached}
use Rattle.alto_hub.proofs.LockLemmas.{locked_more, locked_stays}
use Rattle.alto_hub.proofs.locked.Locked.accept.Goals as goal

pub edit-requires : goal.edit-requires
edit-requires g c = subst (λ (s : Submitted). All IsEdit s.0.edits) (sym c.submission.view_is) c.requires

pub add-requires : goal.add-requires
add-requires g c = record {
  head = rw c.self.invariant.0.named c.self.invariant.0.headed;
  free = c.ask-ask.ensures.free;
}

-- ---- accepted

pub returns-clause-ok : goal.returns-clause-ok
returns-clause-ok g c = rw (← c.self.view_is, ← c.submission.view_is, ← c.self.invariant.0.same)
    c.in_ok-receipt.ensures.ok

pub returns-clause-accepted : goal.returns-clause-accepted
returns-clause-accepted g c =
    let added : c.add.new.self.log ≡ c.self.inside.mark.log ++ c.args.submission ∷ [] =
    ap (λ r. r.log) c.add.ensures ∙ ap (λ (s : Submitted). c.self.inside.mark.log ++ s ∷ []) c.ask-ask.ensures.import in
    rw (← c.self.view_is, added) refl

pub returns-clause-tally : goal.returns-clause-tally
returns-clause-tally g c = c.in_ok-receipt.ensures.tally

pub invariant_of-self-2 : goal.invariant_of-self-2
invariant_of-self-2 g c =
    let mark = c.self.inside.mark in
    let book = c.self.inside.desk.ledger.book in
    let after : Submitted → Reached = λ import. record { name = mark.name; log = mark.log ++ import ∷ [] } in (
      locked_more _ _ book _ _ mark _ _ _ c.args.submission c.self.invariant.0 c.requires
          (subst (λ (s : Submitted). c.edit.new.self.ledger.book ≡ (accept book s.0 s.1).book) c.submission.view_is
          c.in_ok-receipt.ensures.accepted)
          (c.add.ensures ∙ ap after c.ask-ask.ensures.import),
      λ clean.
          let before = c.self.invariant.1 (c.in_ok-receipt.ensures.clean clean) in
          (before.0, λ backed. c.in_ok-receipt.ensures.kept clean (before.1 backed)),
    )

-- ---- refused

pub returns-in_err-receipt-clause-err : goal.returns-in_err-receipt-clause-err
returns-in_err-receipt-clause-err g c =
    let p = err_from_is_err_and c.from_residual.result c.from_residual.ensures.1 in
    rw (p.1, p.2, ← c.self.view_is, ← c.submission.view_is, ← c.self.invariant.0.same) c.in_err-receipt.ensures.err

pub returns-in_err-receipt-clause-unchanged : goal.returns-in_err-receipt-clause-unchanged
returns-in_err-receipt-clause-unchanged g c =
    let p = err_from_is_err_and c.from_residual.result c.from_residual.ensures.1 in
    rw p.1 c.self.view_is

pub returns-in_err-receipt-clause-tally : goal.returns-in_err-receipt-clause-tally
returns-in_err-receipt-clause-tally g c =
    let p = err_from_is_err_and c.from_residual.result c.from_residual.ensures.1 in
    rw (p.1, p.2) c.in_err-receipt.ensures.tally

pub invariant_of-self : goal.invariant_of-self
invariant_of-self g c = (
  locked_stays _ _ _ _ _ _ _ _ c.self.invariant.0 c.in_err-receipt.ensures.unchanged,
  λ clean.
      let before = c.self.invariant.1 (c.in_err-receipt.ensures.clean clean) in
      (before.0, λ backed. c.in_err-receipt.ensures.kept clean (before.1 backed)),
)
