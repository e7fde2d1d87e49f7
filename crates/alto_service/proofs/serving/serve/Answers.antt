use Rattle.std.proofs.Common.{refl, inl, inr, ◌∙◌}
use Rattle.alto_commands.proofs.StoreLemmas.{finds}
use Rattle.alto_service.specs.Serving.{ServesStore}
use Rattle.alto_service.proofs.KeptLemmas.{backs_moved, if_none, if_some}
use Rattle.alto_service.proofs.StatusLemmas.{counted_at, ends_not}
use Rattle.alto_service.proofs.serving.serve.Goals as goal

-- ---- no book was opened

pub returns-in-Err-clause-served : goal.returns-in-Err-clause-served
unfolding ServesStore
returns-in-Err-clause-served g c = inr (inr (
  record {
    why = c.in-Err.fault;
    explained = c.in-Err.ensures.refused;
    told = c.say_unopened.ensures.told;
  },
  c.in-Err.ensures.stays,
  refl,
))

pub returns-in-Err-clause-counted : goal.returns-in-Err-clause-counted
returns-in-Err-clause-counted g c = counted_at _ _ _ (c.in-Err.ensures.counted ∙ c.say_unopened.ensures.faults _)

-- ---- the records were served, and closed

pub returns-in-Some-clause-served : goal.returns-in-Some-clause-served
unfolding ServesStore
returns-in-Some-clause-served g c =
    let kept = if_some _ _ _ _ c.in-Some.is c.serve_desk-status.ensures.kept in
    inl (
      record {
        book = c.in-Ok.desk.ledger.book;
        found = finds _ _ _ (λ clean stored was.
            let both = c.close.ensures.clean clean in
            (c.in-Ok.ensures.opened both.0 (kept both.1).0 stored was).1);
        ends = c.serve_desk-status.ensures.ends;
        kept = λ clean stored was.
            let both = c.close.ensures.clean clean in
            let opened = c.in-Ok.ensures.opened both.0 (kept both.1).0 stored was in
            backs_moved _ _ _ ((kept both.1).1 (stored, opened.0, opened.1))
            (c.close.ensures.kept clean stored (c.in-Ok.ensures.stays both.0 stored was));
      },
      refl,
    )

pub returns-in-Some-clause-counted : goal.returns-in-Some-clause-counted
returns-in-Some-clause-counted g c = λ is.
    absurd (ends_not 3 _ (λ is. cc) (λ is. cc) (λ is. cc) c.serve_desk-status.ensures.ends is)

-- ---- they were given up

pub returns-in-None-clause-served : goal.returns-in-None-clause-served
unfolding ServesStore
returns-in-None-clause-served g c = inr (inl (
  record {
    status = if_none _ _ _ c.in-None.is c.serve_desk-status.ensures.kept;
    stays = c.in-Ok.ensures.stays;
  },
  refl,
))

pub returns-in-None-clause-counted : goal.returns-in-None-clause-counted
returns-in-None-clause-counted g c = λ is.
    absurd (ends_not 3 _ (λ is. cc) (λ is. cc) (λ is. cc) c.serve_desk-status.ensures.ends is)
