use Rattle.std.proofs.Common.{All, sym, ap, ◌∙◌, subst}
use Rattle.std.proofs.lemmas.List.Elements.{All-weaker}
use Rattle.alto_rows.specs.Accepted.{Accepted}
use Rattle.alto_edits.specs.Laws.{FitsBatch}
use Rattle.alto_book.proofs.StateLemmas.{good_rows}
use Rattle.batch_code.specs.Storable.{IsStored}
use Rattle.alto_desk.proofs.RuleLemmas.{fit_of_stored}
use Rattle.alto_desk.proofs.opening.Opening.checked.Goals as goal

pub check-requires-clause-good : goal.check-requires-clause-good
check-requires-clause-good g c =
    rw (c.rows.ensures, c.self.invariant.follows.current) (good_rows _ c.self.invariant.legal)

pub check-requires-clause-fit : goal.check-requires-clause-fit
check-requires-clause-fit g c =
    let same = c.deref.ensures.value ∙ ap (λ (one : Accepted). one.writes) c.batch.view_is in
    subst (All FitsBatch) (sym same) (All-weaker IsStored FitsBatch fit_of_stored c.args.batch.now.writes c.requires)
